-- The lines worked out, computed.
use mathlib.Core.Path.{refl}
use Rattle.replay_parse.specs.Lines.{call_of, place_named, shape_of, call_as, number_if, value_if, read_number, read_value, read_signed, read_digits, digits_from, digit_number, at_end}
use Rattle.block.specs.Message.{within}
use Rattle.week_lines.specs.Weeks.{group_of, is_weekly, line_of}
use Rattle.week_lines.specs.Worked.{WorkedFirst, WorkedLines}

pub worked_first : WorkedFirst
unfolding group_of within
worked_first = record { two = refl; four = refl; one = refl; five = refl; zeroed = refl; spaced = refl; empty = refl }

pub worked_lines : WorkedLines
unfolding line_of is_weekly call_of place_named shape_of call_as number_if value_if read_number read_value read_signed read_digits digits_from digit_number at_end within
worked_lines = record {
  begin = refl;
  write = refl;
  negative = refl;
  ask = refl;
  deliver = refl;
  other = refl;
  third = refl;
  doubled = refl;
  zeroed = refl;
  nought = refl;
  spaces = refl;
  trailing = refl;
  return = refl;
  highest = refl;
  beyond = refl;
  withdraw = refl;
  again = refl;
  empty = refl;
}
