-- What a desk over files tells.
use Rattle.std.specs.Prelude.{ℕ, ◌≡◌, ◌<◌, ◌⊎◌, ◌∷◌, [], List, Option, None, Some, length}
use Rattle.desk_io.specs.declared.desk.Table.{Table}
use Rattle.desk_io.specs.declared.desk.Table.TheVariants.{Node, Link, Movement, Demand}
use Rattle.desk_io.specs.declared.desk.Table.TheVariants.{Start, Times}
use Rattle.desk_io.specs.declared.desk.Output.{Output}
use Rattle.desk_io.specs.declared.desk.Output.TheVariants.{Agent, LinkTime, OriginWait, Gap}
use Rattle.desk_io.specs.declared.desk.Output.TheVariants.{Skim, Counts, Sweep}
use Rattle.desk_io.specs.State.{DeskState}
use Rattle.file_desk.specs.Folders.{Lies, Names, with_name}
use Rattle.file_desk.specs.Names.{output_file, output_name, table_file}
use Rattle.file_desk.specs.Slots.{IsKept, left_in, taken_in}
use Rattle.file_desk.specs.declared.file_desk.FileDesk.{FileDesk}
use Rattle.file_desk.specs.declared.slots.TableFile.{TableFile}
use Rattle.file_desk.specs.declared.slots.TableFile.TheVariants as file

module _ {F R W O M : Type 0} where
  -- a desk over a folder and two streams, of which nothing is opened and nothing made
  abbrev pub new_desk : F → R → W → FileDesk F R W O M
  new_desk folder report watch = record {
    folder = folder;
    node = file.NotOpened;
    link = file.NotOpened;
    movement = file.NotOpened;
    demand = file.NotOpened;
    start = file.NotOpened;
    times = file.NotOpened;
    agent = None;
    link_time = None;
    origin_wait = None;
    gap = None;
    skim = None;
    counts = None;
    sweep = None;
    report = report;
    watch = watch;
    read_faults = 0;
    put_faults = 0;
  }

  -- what is left of each table is what lies under its name; what each output has taken is what was
  -- put under its name, or to its stream
  abbrev pub file_state : (F → List ℕ → Lies) → (O → Option (List ℕ)) → (F → Names)
      → (M → List ℕ → Option (List ℕ)) → (R → Option (List ℕ)) → (W → Option (List ℕ))
      → FileDesk F R W O M → DeskState
  file_state under rest made holds report watch d =
      let left = λ (t : Table) (f : TableFile O). left_in rest (under d.folder (table_file t)) f in
      let taken = λ (o : Output) (f : Option M). taken_in holds (made d.folder) (output_name o) f in
      record {
        left = left Node d.node ∷ left Link d.link ∷ left Movement d.movement
            ∷ left Demand d.demand ∷ left Start d.start ∷ left Times d.times ∷ [];
        taken = taken Agent d.agent ∷ taken LinkTime d.link_time
            ∷ taken OriginWait d.origin_wait ∷ taken Gap d.gap
            ∷ report d.report ∷ watch d.watch
            ∷ taken Skim d.skim ∷ taken Counts d.counts ∷ taken Sweep d.sweep ∷ [];
        read_faults = d.read_faults;
        put_faults = d.put_faults;
      }

  -- the file of a table
  abbrev pub slot_of : Table → FileDesk F R W O M → TableFile O
  slot_of Node d = d.node
  slot_of Link d = d.link
  slot_of Movement d = d.movement
  slot_of Demand d = d.demand
  slot_of Start d = d.start
  slot_of Times d = d.times

  -- the file that was made for an output: Report and Watch have none
  abbrev pub made_for : Output → FileDesk F R W O M → Option M
  made_for Agent d = d.agent
  made_for LinkTime d = d.link_time
  made_for OriginWait d = d.origin_wait
  made_for Gap d = d.gap
  made_for Skim d = d.skim
  made_for Counts d = d.counts
  made_for Sweep d = d.sweep
  made_for _ d = None

  -- all that was put to files is on the disk
  pub record AreKept (holds kept : M → List ℕ → Option (List ℕ)) (d : FileDesk F R W O M)
      : Type 0 where
    pub agent : IsKept holds kept d.agent
    pub link_time : IsKept holds kept d.link_time
    pub origin_wait : IsKept holds kept d.origin_wait
    pub gap : IsKept holds kept d.gap
    pub skim : IsKept holds kept d.skim
    pub counts : IsKept holds kept d.counts
    pub sweep : IsKept holds kept d.sweep

-- no file was made but that of an output, for a piece that isn't empty
abbrev pub MakesAtMost : Output → List ℕ → Names → Names → Type 0
MakesAtMost output piece before after =
    (after ≡ before)
    ⊎ ((name : List ℕ) × (output_file output ≡ Some name) × (0 < length piece)
    × (after ≡ with_name name before))
