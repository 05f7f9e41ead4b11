-- How long a line may be: its numbers have at most ten digits each. Assumes nothing.
use Prim.Native.Nat.{ℕ, zero, suc, ◌+◌, ◌*◌, ◌≤◌, ◌<◌}
use mathlib.Core.Path.{◌≡◌, refl}
use mathlib.Core.Bool.{Bool, true, false, cond, ◌||◌, true≢false}
use mathlib.Core.List.{List, [], ◌∷◌}
use native.Mathlib.Omega.{arith}
use borrow.Author.Tests.{leb-true, eqb-true, eqb-false}
use lib.Dec.{eqb, ltb, leb}
use lib.IntN.{ℤ}
use lib.ListN.{length, get_or, drop, length-drop}
use Rattle.replay_parse.specs.declared.Call.{Call}
use Rattle.replay_parse.specs.Lines.{Form, Field, none, found, digit_number, up_to, digits_from, read_digits, read_number, positive, negative, read_signed, read_value, call_with, at_end, number_if, value_if, shape_of, then, call_as, call_behind, call_of, place_named}
use Rattle.std.specs.Prelude.{Option, Some, None}
use Rattle.week_lines.specs.Weeks.{is_weekly, asked, line_of, LongWrong}

by : {A : Type 0} (P : A → Type 0) (b : Bool) {x y : A} → (b ≡ true → P x) → (b ≡ false → P y) → P (cond b x y)
by P true f g = f refl
by P false f g = g refl

-- ---- numbers

-- what is found leaves all but k of so many bytes
abbrev Near : {A : Type 0} → ℕ → ℕ → Field A → Type 0
Near l k none = Unit
Near l k (found x rest) = l ≤ length rest + k

-- n with k digits more is more than `most`
abbrev Above : ℕ → ℕ → ℕ → Type 0
Above most n zero = most < n
Above most n (suc k) = Above most (10 * n) k

above_more : (most n m k : ℕ) → n ≤ m → Above most n k → Above most m k
above_more most n m zero h a = omega (arith, h, a)
above_more most n m (suc k) h a = above_more most (10 * n) (10 * m) k (omega (arith, h)) a

near_up_to : (most n : ℕ) (text : List ℕ) (k : ℕ) → Above most n k → Near (suc (length text)) k (up_to most n text)
near_up_to most n text zero a = by (λ (f : Field ℕ). Near (suc (length text)) 0 f) (leb n most) (λ e. absurd (omega (arith, leb-true n most e, a))) (λ e. tt)
near_up_to most n text (suc k) a = by (λ (f : Field ℕ). Near (suc (length text)) (suc k) f) (leb n most) (λ e. omega arith) (λ e. tt)

none_above : (most n : ℕ) (text : List ℕ) (l : ℕ) → most < n → Near l 0 (digits_from most n text)
unfolding digits_from
none_above most n [] l h = by (λ (f : Field ℕ). Near l 0 f) (leb n most) (λ e. absurd (omega (arith, leb-true n most e, h))) (λ e. tt)
none_above most n (b ∷ text) l h =
    by (λ (f : Field ℕ). Near l 0 f) (ltb (digit_number b) 10) (λ e. none_above most (10 * n + digit_number b) text l (omega (arith, h)))
    (λ e. by (λ (f : Field ℕ). Near l 0 f) (leb n most) (λ i. absurd (omega (arith, leb-true n most i, h))) (λ i. tt))

near_suc : {A : Type 0} (l k : ℕ) (f : Field A) → Near l k f → Near (suc l) (suc k) f
near_suc l k none h = tt
near_suc l k (found x rest) h = omega (arith, h)

near_digits : (most n : ℕ) (text : List ℕ) (k : ℕ) → Above most n k → Near (suc (length text)) k (digits_from most n text)
unfolding digits_from
near_digits most n [] k a = near_up_to most n [] k a
near_digits most n (b ∷ text) zero a = none_above most n (b ∷ text) (suc (suc (length text))) a
near_digits most n (b ∷ text) (suc k) a =
    by (λ (f : Field ℕ). Near (suc (suc (length text))) (suc k) f) (ltb (digit_number b) 10)
    (λ e. near_suc (suc (length text)) k (digits_from most (10 * n + digit_number b) text) (near_digits most (10 * n + digit_number b) text k (above_more most (10 * n) (10 * n + digit_number b) k (omega arith) a)))
    (λ e. near_up_to most n (b ∷ text) (suc k) a)

near_more : {A : Type 0} (l l' k m : ℕ) (f : Field A) → l' ≤ l + m → Near l k f → Near l' (k + m) f
near_more l l' k m none h n = tt
near_more l l' k m (found x rest) h n = omega (arith, h, n)

near_read : (most : ℕ) (text : List ℕ) → Above most 1 10 → Near (length text) 10 (read_digits most text)
unfolding read_digits
near_read most [] a = tt
near_read most (b ∷ text) a =
    by (λ (f : Field ℕ). Near (suc (length text)) 10 f) (ltb (digit_number b) 10)
    (λ e. by (λ (f : Field ℕ). Near (suc (length text)) 10 f) (eqb (digit_number b) 0) (λ i. omega arith)
    (λ i. near_digits most (digit_number b) text 10 (above_more most 1 (digit_number b) 10 (omega (arith, eqb-false (digit_number b) 0 i)) a)))
    (λ e. tt)

near_number : (text : List ℕ) → Near (length text) 11 (read_number text)
unfolding read_number
near_number [] = tt
near_number (b ∷ text) =
    by (λ (f : Field ℕ). Near (suc (length text)) 11 f) (eqb b 32) (λ e. near_suc (length text) 10 (read_digits 4_294_967_295 text) (near_read 4_294_967_295 text (omega arith))) (λ e. tt)

near_number_if : (has : Bool) (text : List ℕ) → Near (length text) 11 (number_if has text)
unfolding number_if
near_number_if true text = near_number text
near_number_if false text = omega arith

near_positive : (l k : ℕ) (f : Field ℕ) → Near l k f → Near l k (positive f)
near_positive l k none h = tt
near_positive l k (found n rest) h = h

near_negative : (l k : ℕ) (f : Field ℕ) → Near l k f → Near l k (negative f)
near_negative l k none h = tt
near_negative l k (found zero rest) h = tt
near_negative l k (found (suc n) rest) h = h

near_signed : (text : List ℕ) → Near (length text) 11 (read_signed text)
unfolding read_signed
near_signed [] = tt
near_signed (b ∷ text) =
    by (λ (f : Field ℤ). Near (suc (length text)) 11 f) (eqb b 45)
    (λ e. near_negative (suc (length text)) 11 (read_digits 2_147_483_648 text) (near_suc (length text) 10 (read_digits 2_147_483_648 text) (near_read 2_147_483_648 text (omega arith))))
    (λ e. near_positive (suc (length text)) 11 (read_digits 2_147_483_647 (b ∷ text)) (near_more (suc (length text)) (suc (length text)) 10 1 (read_digits 2_147_483_647 (b ∷ text)) (omega arith) (near_read 2_147_483_647 (b ∷ text) (omega arith))))

near_value : (text : List ℕ) → Near (length text) 12 (read_value text)
unfolding read_value
near_value [] = tt
near_value (b ∷ text) = by (λ (f : Field ℤ). Near (suc (length text)) 12 f) (eqb b 32) (λ e. near_suc (length text) 11 (read_signed text) (near_signed text)) (λ e. tt)

near_value_if : (has : Bool) (text : List ℕ) → Near (length text) 12 (value_if has text)
unfolding value_if
near_value_if true text = near_value text
near_value_if false text = omega arith

-- ---- calls

-- a call of a week's letter has at most so many bytes
abbrev Short : ℕ → ℕ → Option Call → Type 0
Short l most None = Unit {0}
Short l most (Some c) = is_weekly c.letter ≡ true → l ≤ most

short_more : (l l' most more : ℕ) (c : Option Call) → (l ≤ most → l' ≤ more) → Short l most c → Short l' more c
short_more l l' most more None f h = tt
short_more l l' most more (Some c) f h = λ w. f (h w)

short-then : {A : Type 0} (l k most : ℕ) (f : Field A) (g : A → List ℕ → Option Call) → Near l k f → ((x : A) (rest : List ℕ) → l ≤ length rest + k → Short l most (g x rest)) → Short l most (then f g)
short-then l k most none g h s = tt
short-then l k most (found x rest) g h s = s x rest h

-- a week's call has no bytes behind
or_by : {P : Type 0} (a b : Bool) → (a ≡ true → P) → (b ≡ true → P) → a || b ≡ true → P
or_by true b f g e = f refl
or_by false b f g e = g e

abbrev has_bytes : Option Form → Bool
has_bytes None = false
has_bytes (Some s) = s.bytes

weekly_plain : (letter : ℕ) → is_weekly letter ≡ true → has_bytes (shape_of letter) ≡ false
unfolding is_weekly shape_of
weekly_plain letter e =
    or_by (eqb letter 66) _ (λ t. rw (eqb-true letter 66 t) refl)
    (or_by (eqb letter 67) _ (λ t. rw (eqb-true letter 67 t) refl)
    (or_by (eqb letter 68) _ (λ t. rw (eqb-true letter 68 t) refl)
    (or_by (eqb letter 75) _ (λ t. rw (eqb-true letter 75 t) refl)
    (or_by (eqb letter 83) _ (λ t. rw (eqb-true letter 83 t) refl) (λ t. rw (eqb-true letter 87 t) refl))))) e

short_end : (l most : ℕ) (bytes : Bool) (c : Call) (text : List ℕ) → (is_weekly c.letter ≡ true → bytes ≡ false) → l ≤ length text + most → Short l most (at_end bytes c text)
unfolding at_end
short_end l most true c [] p h = tt
short_end l most true c (b ∷ text) p h = by (Short l most) (eqb b 32) (λ e w. absurd (true≢false (p w))) (λ e. tt)
short_end l most false c [] p h = λ w. omega (arith, h)
short_end l most false c (b ∷ text) p h = tt

short_as : (letter : ℕ) (s : Form) (text : List ℕ) → (is_weekly letter ≡ true → s.bytes ≡ false) → Short (length text) 34 (call_as s letter text)
unfolding call_as
short_as letter s text plain =
    short-then (length text) 11 34 (number_if (ltb 0 s.numbers) text) _ (near_number_if (ltb 0 s.numbers) text) (λ (a : ℕ) (rest : List ℕ) h.
    short-then (length text) 22 34 (number_if (ltb 1 s.numbers) rest) _ (near_more (length rest) (length text) 11 11 (number_if (ltb 1 s.numbers) rest) h (near_number_if (ltb 1 s.numbers) rest)) (λ (b : ℕ) (more : List ℕ) i.
    short-then (length text) 34 34 (value_if s.value more) _ (near_more (length more) (length text) 12 22 (value_if s.value more) i (near_value_if s.value more)) (λ (v : ℤ) (end : List ℕ) j.
    short_end (length text) 34 s.bytes (call_with letter a b v) end plain j)))

short_behind : (letter : ℕ) (s : Option Form) (text : List ℕ) → (is_weekly letter ≡ true → has_bytes s ≡ false) → Short (length text) 34 (call_behind s letter text)
short_behind letter None text plain = tt
short_behind letter (Some s) text plain = short_as letter s text plain

short_call : (line : List ℕ) → Short (length line) 37 (call_of line)
unfolding call_of
short_call line =
    let letter = get_or line 0 0 in
    by (Short (length line) 37) (ltb (length line) 3) (λ e. tt)
    (λ e. short_more (length (drop 3 line)) (length line) 34 37 (call_behind (shape_of letter) letter (drop 3 line)) (λ h. omega (arith, h, length-drop 3 line)) (short_behind letter (shape_of letter) (drop 3 line) (weekly_plain letter)))

none_asked : (n l : ℕ) (k : Option ℕ) (c : Option Call) → 37 < l → Short l 37 c → asked n k c ≡ None
none_asked n l None c h s = refl
none_asked n l (Some k) None h s = refl
none_asked n l (Some k) (Some c) h s =
    by (λ (r : Option (ℕ × Call)). r ≡ None) (ltb k n)
    (λ e. by (λ (r : Option (ℕ × Call)). r ≡ None) (ltb k 4) (λ i. by (λ (r : Option (ℕ × Call)). r ≡ None) (is_weekly c.letter) (λ w. absurd (omega (arith, s w, h))) (λ w. refl)) (λ i. refl))
    (λ e. refl)

pub long_wrong : LongWrong
unfolding line_of
long_wrong n line h = none_asked n (length line) (place_named line) (call_of line) h (short_call line)
