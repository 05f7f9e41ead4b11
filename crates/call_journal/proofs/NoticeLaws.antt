-- One turn of the loops over lent notices. Assumes nothing.
use Prim.Native.Nat.{ℕ, ◌+◌, ◌*◌, ◌/◌, ◌≤◌, ◌<◌}
use mathlib.Core.Path.{◌≡◌, ◌∙◌}
use mathlib.Core.Bool.{Bool, cond, not, ◌&&◌}
use mathlib.Core.List.{List, [], ◌∷◌}
use native.Mathlib.Omega.{arith}
use lib.Dec.{eqb, leb}
use lib.ListN.{length, get_or, drop}
use Rattle.std.proofs.lemmas.List.{get_or-take, get_or-drop}
use Rattle.std.specs.Simd.{first_chunks}
use Rattle.memory.specs.declared.Group.{Group}
use Rattle.memory.specs.Notices.{Notice, with_notice, with_notices, puts_out}
use Rattle.call_reply.specs.Notices.{notice_of, notices_in}
use Rattle.call_reply.proofs.NoticeLaws.{notices_cons, notices_none}
use Rattle.call_journal.proofs.ChunkLaws.{read_at}

-- the notices from number i on
abbrev pub notices_from : List ℕ → ℕ → List Notice
notices_from l i = notices_in (drop (3 * i) l)

module _ (l : List ℕ) (i : ℕ) where
  from-none : length l / 3 ≤ i → notices_from l i ≡ []
  from-none h = notices_none l (3 * i) (omega arith)

  module _ (chunks : List (List ℕ)) (is : chunks ≡ first_chunks 3 (length l / 3) l) where
    -- the j-th number of notice i
    abbrev pub at : ℕ → ℕ
    at j = get_or (get_or chunks i []) j 0

    at_lem : i < length l / 3 → (j : ℕ) → j < 3 → at j ≡ get_or l (3 * i + j) 0
    at_lem h j k = rw (read_at 3 i l [] chunks is h) (get_or-take 3 (drop (3 * i) l) j 0 k ∙ get_or-drop (3 * i) l j 0)

    from_cons : i < length l / 3 → notices_from l i ≡ notice_of (at 0) (at 1) (at 2) ∷ notices_from l (i + 1)
    from_cons h =
        let e : 3 * i + 3 ≡ 3 * (i + 1) = omega arith in
        let z : 3 * i + 0 ≡ 3 * i = omega arith in
        rw (at_lem h 0 (omega arith), at_lem h 1 (omega arith), at_lem h 2 (omega arith), z) (rw e at (notices_cons l (3 * i) (omega arith)))

    -- a loop's turn: whether a slot is out
    pub out-turn : i < length l / 3 → (b c : Bool) (k s : ℕ) → c ≡ cond (eqb (at 0) k && leb (at 2) s) (not (eqb (at 1) 0)) b → puts_out b (notices_from l i) k s ≡ puts_out c (notices_from l (i + 1)) k s
    unfolding puts_out
    out-turn h b c k s e = rw (from_cons h, e)

    -- and the group
    pub group-turn : i < length l / 3 → (g a : Group) → a ≡ with_notice g (notice_of (at 0) (at 1) (at 2)) → with_notices g (notices_from l i) ≡ with_notices a (notices_from l (i + 1))
    unfolding with_notices
    group-turn h g a e = rw (from_cons h, e)

  -- and its end
  pub out-end : (b : Bool) (k s : ℕ) → length l / 3 ≤ i → puts_out b (notices_from l i) k s ≡ b
  unfolding puts_out
  out-end b k s h = rw (from-none h)

  pub group-end : (g : Group) → length l / 3 ≤ i → with_notices g (notices_from l i) ≡ g
  unfolding with_notices
  group-end g h = rw (from-none h)
