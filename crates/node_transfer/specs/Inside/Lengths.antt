-- How many riders the lines of a cell have.
use Rattle.std.specs.Prelude.{ℕ, length}
use Rattle.cell_stages.specs.declared.in_link.InLink.{InLink}
use Rattle.cell_stages.specs.declared.out_link.OutLink.{OutLink}

-- how many riders stand in an in-link
abbrev pub line_length : InLink → ℕ
line_length link = length link.line

-- how many wait for an out-link and are due
abbrev pub waiting_length : OutLink → ℕ
waiting_length o = length o.waiting.due
