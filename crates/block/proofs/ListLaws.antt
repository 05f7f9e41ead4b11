-- Lists of bytes and their parts: what is made of bytes is bytes, and a list is its slices joined. Assumes nothing.
use Prim.Native.Nat.{ℕ, zero, suc, ◌+◌, ◌*◌, ◌-◌, ◌≤◌, ◌<◌}
use mathlib.Core.Path.{◌≡◌, refl, sym, ap, ◌∙◌}
use mathlib.Core.List.{List, [], ◌∷◌, ◌++◌, append_assoc}
use native.Mathlib.Nat.{zero-add, suc-add, add_comm, mul-suc, not-suc-le-zero, le_of_suc-le-suc}
use native.Mathlib.Omega.{arith}
use lib.ListN.{length, get_or, take, drop, replicate, length-append, length-drop, take-append-drop}
use lib.Seq.{slice, get_or-drop, get_or-take, take-take, take_at, drop_at, take-nil, take_all, take-length, drop-drop}
use Rattle.block.specs.Theorems.{AreBytes}

-- ---- bytes

-- `AreBytes` as a record, so that the list of a proof is known from its type
pub record AllBytes (l : List ℕ) : Type 0 where
  pub each : AreBytes l

pub bytes_nil : AllBytes []
bytes_nil = record { each = λ i. omega arith }

pub bytes_cons : {x : ℕ} {l : List ℕ} → x < 256 → AllBytes l → AllBytes (x ∷ l)
bytes_cons {x} {l} h f = record { each = at }
  where
    at : AreBytes (x ∷ l)
    at zero = h
    at (suc i) = f.each i

pub bytes_tail : {x : ℕ} {l : List ℕ} → AllBytes (x ∷ l) → AllBytes l
bytes_tail f = record { each = λ i. f.each (suc i) }

pub bytes_append : {l k : List ℕ} → AllBytes l → AllBytes k → AllBytes (l ++ k)
bytes_append {l = []} f g = g
bytes_append {l = x ∷ xs} f g = bytes_cons (f.each 0) (bytes_append (bytes_tail f) g)

pub bytes_drop : {l : List ℕ} (n : ℕ) → AllBytes l → AllBytes (drop n l)
bytes_drop {l} n f = record { each = λ i. rw get_or-drop (f.each (n + i)) }

pub bytes_take : {l : List ℕ} (n : ℕ) → AllBytes l → AllBytes (take n l)
bytes_take {l} zero f = bytes_nil
bytes_take {l = []} (suc n) f = bytes_nil
bytes_take {l = x ∷ xs} (suc n) f = bytes_cons (f.each 0) (bytes_take n (bytes_tail f))

pub bytes_slice : {l : List ℕ} (f t : ℕ) → AllBytes l → AllBytes (slice f t l)
bytes_slice f t h = bytes_drop f (bytes_take t h)

pub bytes_zeros : (n : ℕ) → AllBytes (replicate n 0)
bytes_zeros zero = bytes_nil
bytes_zeros (suc n) = bytes_cons (omega arith) (bytes_zeros n)

-- ---- parts

module _ {A : Type 0} where
  -- a slice, the length first
  pub take-drop : (n m : ℕ) (l : List A) → take n (drop m l) ≡ slice m (m + n) l
  take-drop n zero l = rw zero-add
  take-drop n (suc m) [] = rw suc-add (take-nil n)
  take-drop n (suc m) (x ∷ xs) = rw suc-add (take-drop n m xs)

  -- a slice of a front part is a slice of the whole
  pub slice-take : (f t n : ℕ) (l : List A) → t ≤ n → slice f t (take n l) ≡ slice f t l
  slice-take f t n l h = ap (drop f) (take-take t n l h)

  -- n elements from place k on of a slice
  pub part_in : (l : List A) (f t k n f' t' : ℕ) → f + k ≡ f' → f' + n ≡ t' → t' ≤ t → take n (drop k (slice f t l)) ≡ slice f' t' l
  part_in l f t k n f' t' e h u = rw (drop-drop, e, take-drop, h) (slice-take f' t' t l u)

  pub slice-slice : (a m f t : ℕ) (l : List A) → a + t ≤ m → slice f t (slice a m l) ≡ slice (a + f) (a + t) l
  slice-slice a m f t l h = rw (take-drop t a (take m l), drop-drop f a (take (a + t) (take m l)), take-take (a + t) m l h)

  pub part-take : (n t : ℕ) (l : List A) → slice n (n + t) l ≡ take t (drop n l)
  part-take n t l = sym (take-drop t n l)

  pub part-drop : (n f t : ℕ) (l : List A) → slice f t (drop n l) ≡ slice (n + f) (n + t) l
  part-drop n f t l = rw (take-drop t n l) (drop-drop f n (take (n + t) l))

  -- the part `&l[f..t]` as the borrow checker has it; for `&l[k..]` its end is the length
  abbrev pub lent : ℕ → ℕ → List A → List A
  lent f t l = take (t - f) (drop f l)

  pub lent_slice : (f t : ℕ) (l : List A) → f ≤ t → lent f t l ≡ slice f t l
  lent_slice f t l h =
      let e : f + (t - f) ≡ t = omega arith in
      rw (take-drop (t - f) f l, e)

  pub lent-rest : (k : ℕ) (l : List A) → lent k (length l) l ≡ drop k l
  lent-rest k l = rw (← length-drop k l) (take-length (drop k l))

  pub get_or-slice : (l : List A) (d : A) (f t k i : ℕ) → f + k ≡ i → i < t → get_or (slice f t l) k d ≡ get_or l i d
  get_or-slice l d f t k i e h = rw (get_or-drop, e) (get_or-take t l i d h)

  pub slice_at : (p q r : List A) (f t : ℕ) → length p ≡ f → f + length q ≡ t → slice f t (p ++ (q ++ r)) ≡ q
  slice_at p q r f t e h =
      ap (λ (l : List A). slice f t l) (sym (append_assoc p q r))
      ∙ ap (drop f) (take_at (p ++ q) r t (length-append p q ∙ omega arith))
      ∙ drop_at p q f e

  pub slice-end : (p q r : List A) (f t : ℕ) → length p + length q ≡ f → f + length r ≡ t → slice f t (p ++ (q ++ r)) ≡ r
  slice-end p q r f t e h =
      ap (drop f) (take_all t (p ++ (q ++ r)) (simp length-append (omega arith)))
      ∙ ap (drop f) (sym (append_assoc p q r))
      ∙ drop_at (p ++ q) r f (length-append p q ∙ e)

  -- a rest is the slice up to t and the rest from t on
  pub cut : (f t : ℕ) (l : List A) → f ≤ t → drop f l ≡ slice f t l ++ drop t l
  cut zero t l h = sym (take-append-drop t l)
  cut (suc f) zero l h = absurd (not-suc-le-zero h)
  cut (suc f) (suc t) [] h = refl
  cut (suc f) (suc t) (x ∷ xs) h = cut f t xs (le_of_suc-le-suc h)

  pub slice-split : (f s t : ℕ) (l : List A) → f ≤ s → s ≤ t → slice f t l ≡ slice f s l ++ slice s t l
  slice-split f s t l h u = cut f s (take t l) h ∙ ap (λ (k : List A). k ++ slice s t l) (slice-take f s t l u)

  pub drop-slice : (f t : ℕ) (l : List A) → length l ≡ t → drop f l ≡ slice f t l
  drop-slice f t l e = ap (drop f) (sym (take_all t l (omega arith)))

  -- past j parts of width w, after the first
  pub drop-step : (w j : ℕ) (l : List A) → drop (w * j) (drop w l) ≡ drop (w * suc j) l
  drop-step w j l = drop-drop (w * j) w l ∙ ap (λ (k : ℕ). drop k l) (add_comm w (w * j) ∙ sym (mul-suc w j))
