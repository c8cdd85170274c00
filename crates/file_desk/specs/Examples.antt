-- Small cases of the definitions, by computation.
use Rattle.std.specs.Prelude.{◌≡◌, [], None, Some, codes, refl}
use Rattle.desk_io.specs.declared.desk.Output.TheVariants.{LinkTime, OriginWait, Report}
use Rattle.desk_io.specs.declared.desk.Table.TheVariants.{Times}
use Rattle.file_desk.specs.Folders.{bytes_of, no_bytes, with_name}
use Rattle.file_desk.specs.MemFolder.{held_under}
use Rattle.file_desk.specs.Names.{output_file, table_file}

-- link times are read from a file of their own, and not from the one that an assignment writes
times-are-another-file : table_file Times ≡ codes "times.csv"
times-are-another-file = refl

link-times-are-put : output_file LinkTime ≡ Some (codes "link_performance.csv")
link-times-are-put = refl

waits-have-a-file : output_file OriginWait ≡ Some (codes "origin_wait.csv")
waits-have-a-file = refl

-- Report has no file
a-stream : output_file Report ≡ None
a-stream = refl

-- where there is no file zero bytes lie
nothing-there : bytes_of (Some None) ≡ Some []
nothing-there = refl

-- a file that was made has zero bytes, told by a folder that tells what was made
made-anew : no_bytes (with_name (codes "gap.csv") (Some [])) ≡ Some []
made-anew = refl

-- a file tells its bytes by its own name alone
by-its-name : held_under (codes "gap.csv") (codes "gap.csv") (codes "1") ≡ Some (codes "1")
by-its-name = refl

by-another-name : held_under (codes "gaps.csv") (codes "gap.csv") (codes "1") ≡ None
by-another-name = refl
