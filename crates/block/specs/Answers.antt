-- What the functions answer, on any bytes.
use Rattle.std.specs.Prelude.{ℕ, ◌+◌, ◌*◌, Bool, cond, not, ◌&&◌, List, [], ◌∷◌, eqb, ltb, pos, length, get_or, Result, Ok, Err}
use Rattle.std.proofs.Math.Seq.{slice}
use Rattle.block.specs.declared.Entry.{Entry}
use Rattle.block.specs.declared.Header.{Header}
use Rattle.block.specs.declared.RecordHead.{RecordHead}
use Rattle.block.specs.declared.BlockFault.{BlockFault}
use Rattle.block.specs.declared.BlockFault.TheVariants.{WrongLength, WrongCheck, WrongForm}
use Rattle.block.specs.Numbers.{number_from}
use Rattle.block.specs.Check.{check_matches}
use Rattle.block.specs.Form.{entry_of, well_formed}

-- a refusal of document 01's table: its number, and when it is given
pub record Refusal : Type 0 where
  pub number : ℕ
  pub holds : Bool

abbrev pub refuse : ℕ → Bool → Refusal
refuse n c = record { number = n; holds = c }

-- the number of the first refusal that holds, 0 where none does
unfoldable pub first_of : List Refusal → ℕ
first_of [] = 0
first_of (r ∷ rs) = cond r.holds r.number (first_of rs)

unfoldable pub block_refusal : List ℕ → ℕ
block_refusal b =
    first_of
    (refuse 1 (not (eqb (length b) 512))
    ∷ refuse 14 (not (check_matches b))
    ∷ refuse 15 (not (well_formed b))
    ∷ [])

unfoldable pub header_of : List ℕ → Header
header_of b = record {
  kind = get_or b 0 0;
  sender = get_or b 1 0;
  replicas = get_or b 2 0;
  count = get_or b 3 0;
  slot = number_from (slice 4 8 b);
}

abbrev pub no_header : Header
no_header = record { kind = 0; sender = 0; replicas = 0; count = 0; slot = 0 }

-- a fault's number in the table
abbrev pub fault_number : BlockFault → ℕ
fault_number WrongLength = 1
fault_number WrongCheck = 14
fault_number WrongForm = 15

-- the number and the header of the reader's answer
abbrev pub number_and_header : Result Header BlockFault → ℕ × Header
number_and_header (Ok h) = (0, h)
number_and_header (Err f) = (fault_number f, no_header)

-- the reader: a number of document 01's table, or 0 and the header
unfoldable pub block_read : List ℕ → ℕ × Header
block_read b = (block_refusal b, cond (eqb (block_refusal b) 0) (header_of b) no_header)

-- record j and entry e of a block, as the bytes stand; zeros past the sixth record or the eighth entry, or of another length
unfoldable pub record_at : List ℕ → ℕ → RecordHead
record_at b j =
    cond (eqb (length b) 512 && ltb j 6)
    (record { ticket = number_from (slice (16 + 72 * j) (20 + 72 * j) b); writes = get_or b (20 + 72 * j) 0 })
    (record { ticket = 0; writes = 0 })

unfoldable pub entry_at : List ℕ → ℕ → ℕ → Entry
entry_at b j e =
    cond (eqb (length b) 512 && (ltb j 6 && ltb e 8))
    (entry_of (slice (24 + 72 * j + 8 * e) (32 + 72 * j + 8 * e) b))
    (record { item = 0; value = pos 0 })
