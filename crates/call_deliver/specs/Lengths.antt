-- The lengths of what a deliver is lent.
use Rattle.std.specs.Prelude.{ℕ, ◌*◌, Bool, ◌&&◌, eqb}

-- so many places, the block sent last and the block that arrives, by their lengths
abbrev pub lengths_fit : ℕ → ℕ → ℕ → ℕ → Bool
lengths_fit span places outbox bytes = eqb places (512 * span) && (eqb outbox 512 && eqb bytes 512)
