-- The laws that the writers' proofs cite, over plain lists: what a run of stores and of parts lent leaves. Assumes nothing.
use Prim.Native.Nat.{ℕ, zero, suc, ◌+◌, ◌-◌, ◌*◌, ◌/◌, ◌%◌, ◌≤◌, ◌<◌}
use mathlib.Core.List.{List, [], ◌∷◌, ◌++◌, append_assoc, append-nil}
use mathlib.Core.Path.{◌≡◌, refl, sym, ap, ◌∙◌}
use native.Mathlib.Nat.{not-suc-le-zero, le_of_suc-le-suc, sub-zero, zero-sub, suc-sub-suc}
use native.Mathlib.Numerals.{add-one}
use native.Mathlib.Omega.{arith}
use borrow.Rule.Slice.PartMut.{put_mid}
use lib.IntN.{ℤ, pos}
use lib.ListN.{length, get_or, take, drop, replicate, length-append, drop_of_length-le, take-append-drop}
use lib.Seq.{length-take-le, take_at, drop_at, drop-drop}
use Rattle.std.specs.Int.{w32, to_le_bytes}
use mir.Val.{of_z}
use Rattle.block.specs.declared.Entry.{Entry}
use Rattle.block.specs.Bytes.{entry_bytes, entries_bytes, record_bytes, records_bytes}
use Rattle.block.specs.Check.{first_check, second_check, check_bytes}
use Rattle.block.specs.Message.{Record}
use Rattle.block.specs.Numbers.{bytes_of, value_bytes}
use Rattle.block.specs.Writing.{entries_from}
use Rattle.block.proofs.BlockLaws.{length-entry_bytes}
use Rattle.block.proofs.NumberLaws.{length-bytes_of}

-- ---- a list filled from the front: l is p, of a elements, and then what l₀ has from index a on

pub record Filled (l₀ : List ℕ) (a : ℕ) (p l : List ℕ) : Type 0 where
  pub size : length p ≡ a
  pub is : l ≡ p ++ drop a l₀

pub filled_none : (l₀ : List ℕ) → Filled l₀ 0 [] l₀
filled_none l₀ = record { size = refl; is = refl }

module _ {l₀ : List ℕ} {a : ℕ} {p l : List ℕ} (f : Filled l₀ a p l) where
  -- the k elements behind p lent as a part, which comes back as ys
  pub filled-part : (k : ℕ) (ys : List ℕ) → length ys ≡ k → Filled l₀ (a + k) (p ++ ys) (put_mid a k l ys)
  filled-part k ys h = record {
    size = length-append p ys ∙ omega arith;
    is = rw (f.is, take_at p (drop a l₀) a f.size, drop_at p (drop a l₀) a f.size, drop-drop k a l₀) (sym (append_assoc p ys (drop (a + k) l₀)));
  }

  -- all of it
  pub filled-all : length l₀ ≤ a → l ≡ p
  filled-all h = f.is ∙ rw (drop_of_length-le l₀ h) (append-nil p)

-- ---- numbers

-- a byte as a number of four: three zeros behind it
pub byte_number : (x : ℕ) → x < 256 → bytes_of 4 x ≡ x ∷ 0 ∷ 0 ∷ 0 ∷ []
unfolding bytes_of
byte_number x h =
    let a : x % 256 ≡ x = omega arith in
    let z : x / 256 ≡ 0 = omega arith in
    rw (a, z)

-- a number's four bytes, as the library says them
pub le_bytes : (x : ℕ) → to_le_bytes w32 x ≡ bytes_of 4 x
unfolding bytes_of
le_bytes x =
    let e : x / 65536 ≡ x / 256 / 256 = omega arith in
    let d : x / 16777216 ≡ x / 256 / 256 / 256 = omega arith in
    rw (e, d)

-- ---- the parts of a block, from any l of their length

pub entry_put : (l xs ys : List ℕ) (e : Entry) → length l ≡ 8 → e.item < 256 → xs ≡ bytes_of 4 e.item → ys ≡ bytes_of 4 (of_z w32 e.value)
    → put_mid 4 4 (put_mid 0 4 l xs) ys ≡ entry_bytes e
unfolding entry_bytes value_bytes
entry_put l xs ys e h k p q =
    let f = filled-part (filled_none l) 4 xs (ap length p ∙ length-bytes_of 4 _) in
    filled-all (filled-part f 4 ys (ap length q ∙ length-bytes_of 4 _)) (omega arith)
    ∙ ap (λ (z : List ℕ). z ++ ys) (p ∙ byte_number e.item k)
    ∙ ap (λ (z : List ℕ). (e.item ∷ 0 ∷ 0 ∷ 0 ∷ []) ++ z) q

-- ---- the entries of a record

-- the bytes of the first e entries
abbrev pub entries_to : List ℕ → List ℤ → ℕ → List ℕ
entries_to is vs e = entries_bytes (entries_from (take e is) (take e vs))

abbrev pub entry_no : List ℕ → List ℤ → ℕ → Entry
entry_no is vs e = record { item = get_or is e 0; value = get_or vs e (pos 0) }

entries_next : (is : List ℕ) (vs : List ℤ) (e : ℕ) → e < length is → e < length vs
    → entries_to is vs (suc e) ≡ entries_to is vs e ++ entry_bytes (entry_no is vs e)
unfolding entries_bytes entries_from
entries_next [] vs e h k = absurd (not-suc-le-zero h)
entries_next (i ∷ is) [] e h k = absurd (not-suc-le-zero k)
entries_next (i ∷ is) (v ∷ vs) zero h k = append-nil _
entries_next (i ∷ is) (v ∷ vs) (suc e) h k =
    rw (entries_next is vs e (le_of_suc-le-suc h) (le_of_suc-le-suc k))
    (sym (append_assoc (entry_bytes (record { item = i; value = v })) (entries_to is vs e) (entry_bytes (entry_no is vs e))))

pub length_entries : (is : List ℕ) (vs : List ℤ) → length vs ≡ length is → length (entries_from is vs) ≡ length is
unfolding entries_from
length_entries [] vs h = refl
length_entries (i ∷ is) [] h = h
length_entries (i ∷ is) (v ∷ vs) h = ap suc (length_entries is vs (omega arith))

module _ (l₀ : List ℕ) (is : List ℕ) (vs : List ℤ) where
  pub entries_none : Filled l₀ 0 (entries_to is vs 0) l₀
  unfolding entries_bytes entries_from
  entries_none = filled_none l₀

  -- a turn of the loop: entry e into its part
  pub entries-put : (e : ℕ) (v : ℤ) (l ys : List ℕ) → e < length is → e < length vs → Filled l₀ (8 * e) (entries_to is vs e) l
      → ys ≡ entry_bytes (record { item = get_or is e 0; value = v }) → v ≡ get_or vs e (pos 0)
      → Filled l₀ (8 * (e + 1)) (entries_to is vs (e + 1)) (put_mid (8 * e) (8 * e + 8 - 8 * e) l ys)
  entries-put e v l ys h g f y q =
      let k : 8 * e + 8 - 8 * e ≡ 8 = omega arith in
      let a : 8 * (e + 1) ≡ 8 * e + 8 = omega arith in
      rw (k, a, add-one e, entries_next is vs e h g, ← q, ← y) (filled-part f 8 ys (ap length y ∙ length-entry_bytes _))

-- ---- the records of a block

pub records_append : (rs : List Record) (r : Record) → records_bytes (rs ++ (r ∷ [])) ≡ records_bytes rs ++ record_bytes r
unfolding records_bytes
records_append [] r = append-nil _
records_append (s ∷ rs) r = rw (records_append rs r) (sym (append_assoc (record_bytes s) (records_bytes rs) (record_bytes r)))

-- ---- the check

-- the two parts of the check, whose numbers are f and s
pub check_put : (l xs ys : List ℕ) (f s : ℕ) → length l ≡ 512 → f ≡ first_check l → s ≡ second_check l → xs ≡ to_le_bytes w32 f → ys ≡ to_le_bytes w32 s
    → put_mid 508 4 (put_mid 504 4 l xs) ys ≡ take 504 l ++ check_bytes l
unfolding check_bytes
check_put l xs ys f s h p q x y =
    let front : Filled l 504 (take 504 l) l = record { size = length-take-le 504 l (omega arith); is = sym (take-append-drop 504 l) } in
    let a : xs ≡ bytes_of 4 f = x ∙ le_bytes f in
    let b : ys ≡ bytes_of 4 s = y ∙ le_bytes s in
    filled-all (filled-part (filled-part front 4 xs (ap length a ∙ length-bytes_of 4 f)) 4 ys (ap length b ∙ length-bytes_of 4 s)) (omega arith)
    ∙ rw (a, b, ← p, ← q) (append_assoc (take 504 l) (bytes_of 4 f) (bytes_of 4 s))

-- ---- a whole block: zeros

pub drop-zeros : (k n : ℕ) → drop {A = ℕ} k (replicate n 0) ≡ replicate (n - k) 0
drop-zeros zero n = rw (sub-zero n)
drop-zeros (suc k) zero = rw (zero-sub (suc k))
drop-zeros (suc k) (suc n) = drop-zeros k n ∙ rw (suc-sub-suc n k)
