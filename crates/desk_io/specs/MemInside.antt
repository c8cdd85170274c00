-- What the fields of a desk in memory show.
use Rattle.std.specs.Prelude.{◌<◌, map, Some}
use Rattle.desk_io.specs.MemDesk.{MemView}
use Rattle.desk_io.specs.declared.mem_desk.MemDesk.TheInside as mem

abbrev pub mem_view : mem.Inside → MemView
mem_view d = record {
  left = map Some d.tables;
  taken = map (λ output. Some output.items) d.outputs;
  read_faults = d.read_faults;
  put_faults = d.put_faults;
  starved = d.starved;
  next_read = d.next_read;
  next_put = d.next_put;
  failing_reads = d.failing_reads.items;
  failing_puts = d.failing_puts.items;
  most = d.most;
}

-- each call may move a byte
abbrev pub CanMove : mem.Inside → Type 0
CanMove d = 0 < d.most
