use Rattle.std.proofs.Common.{rules, ◌≡◌}
use Rattle.file_desk.specs.Folders.{no_bytes}
use Rattle.file_desk.specs.Names.{output_name}
use Rattle.file_desk.proofs.slots.write_file.Goals as goal

pub returns-in-Some-clause-adds : goal.returns-in-Some-clause-adds
returns-in-Some-clause-adds g c = rw (c.in-Some.is) (c.write.ensures (output_name c.args.output))

-- the file that was made has zero bytes
pub returns-in_ok-made-in-None-clause-adds : goal.returns-in_ok-made-in-None-clause-adds
returns-in_ok-made-in-None-clause-adds g c =
    let made = c.in_ok-made-in-None.made in
    let empty : g.F.Made.MadeFile.holds made (output_name c.args.output) ≡ no_bytes (g.F.Folder.made c.args.folder.now) = search rules in
    rw (c.in-None.is, ← empty) (c.write-answer.ensures (output_name c.args.output))
