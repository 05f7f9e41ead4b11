-- The answers that are held until they are written.
use Rattle.std.specs.Prelude.{ℕ, ◌+◌, ◌%◌, ◌^◌, Bool, false, ◌||◌, nat_le, nat_lt}
use Rattle.text_lines.specs.declared.input.Source.{Source}
use Rattle.text_lines.specs.declared.output.Output.{Output}

-- all written, or not, as the system says
abbrev pub as_written : Output → Bool → Output
as_written o failed = record { held = 0; answered = o.answered; written = o.answered; failed = failed }

-- they are written before more input is waited for, and where there may be no room for another line
abbrev pub is_due : Output → Source → Bool
is_due o s = nat_le s.end s.at || nat_lt 61_440 o.held

-- with the answer to one line more, of so many bytes
abbrev pub with_line : Output → ℕ → Output
with_line o bytes = record {
  held = (o.held + bytes) % 2 ^ 64;
  answered = (o.answered + 1) % 2 ^ 64;
  written = o.written;
  failed = false;
}
