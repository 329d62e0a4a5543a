-- A walk over an index that keeps its rules gives the pairs of its row.
use Rattle.std.proofs.Common.{◌≡◌, ℕ, zero, suc, ◌<◌, ◌≤◌, Bool, true, false, cond, not, List, [], ◌∷◌, ◌++◌, length, get_or, take, drop, Some, None, Option, sym, refl, ap, ◌∙◌, subst, append_assoc, length-append, arith}
use Rattle.std.proofs.lemmas.Iterator.{YieldsList}
use Rattle.std.proofs.lemmas.Iterator.Consumers.{YieldsList-so_far, YieldsList-turn, YieldsList-end}
use Rattle.std.proofs.lemmas.Iterator.Splits.{YieldsList-from_shown_while}
use Rattle.std.proofs.lemmas.List.{map-id, take-append-drop}
use Rattle.std.proofs.Math.Seq.{drop-cons}
use Rattle.std.specs.Iterator.{Yields}
use Rattle.std.proofs.lemmas.Bool.{le-ltb}
use Rattle.ordered.specs.declared.index.OrderedIndex.{Ghosts}
use Rattle.ordered.specs.Meaning.{Order, Ascending, same, lookup, first, at_or_above, above}
use Rattle.ordered.proofs.Lookups.{same_self, less_apart, after_all}
use Rattle.ordered.proofs.Rows.{same_is}
use Rattle.logs.specs.declared.keys.Tag.{Tag}
use Rattle.logs.specs.declared.log.Rest.{Rest}
use Rattle.logs.specs.Orders.{tag_before}
use Rattle.ordered.proofs.Walks.{head_of, past_mid}
use Rattle.log_yard.specs.declared.pairs.Pairs.{Pairs}
use Rattle.log_yard.specs.Pages.{drop_to}
use Rattle.log_yard.specs.Walk.{from_key, walked, pairs_left, pairs_steps}

module _ {K R : Type 0} (f : K → Bool) where
  first_head : (row : List (K × R)) → first f row ≡ head_of (drop_to f row)
  first_head [] = refl
  first_head (p ∷ ps) = elim (f p.0) as (λ t. cond t (Some p) (first f ps) ≡ head_of (cond t (p ∷ ps) (drop_to f ps))) [ true ↦ refl | false ↦ first_head ps ]

  -- what is left behind
  pub passed : (row : List (K × R)) → (pre : List (K × R)) × (row ≡ pre ++ drop_to f row)
  passed [] = ([], refl)
  passed (p ∷ ps) =
      let before = passed ps in
      elim (f p.0) as (λ t. (pre : List (K × R)) × (p ∷ ps ≡ pre ++ cond t (p ∷ ps) (drop_to f ps))) [ true ↦ ([], refl) | false ↦ (p ∷ before.0, ap (λ z. p ∷ z) before.1) ]

module _ {K R : Type 0} {b : K → K → Bool} (o : Order b) (row : List (K × R)) (asc : Ascending b row) where
  walked_on : (pre rest : List (K × R)) (n : ℕ) → row ≡ pre ++ rest → length rest ≤ n → walked b row n (head_of rest) ≡ rest
  walked_on pre [] zero e h = refl
  walked_on pre [] (suc n) e h = refl
  walked_on pre (p ∷ ps) zero e h = absurd (omega (arith, h))
  walked_on pre (p ∷ ps) (suc n) e h =
      let next : above b row p.0 ≡ head_of ps = ap (λ z. above b z p.0) e ∙ past_mid o p ps pre (subst (Ascending b) e asc) in
      ap (λ z. p ∷ walked b row n z) next ∙ ap (λ z. p ∷ z) (walked_on (pre ++ (p ∷ [])) ps n (e ∙ sym (append_assoc pre (p ∷ []) ps)) (omega (arith, h)))

  pub walk_from : (k : K) (got : Option (K × R)) (n : ℕ) → got ≡ at_or_above b row k → n ≡ length row → walked b row n got ≡ from_key b row k
  walk_from k got n e h =
      let f : K → Bool = λ q. not (b q k) in
      let split = passed f row in
      ap (walked b row n) (e ∙ first_head f row)
      ∙ walked_on split.0 (drop_to f row) n split.1 (omega (arith, h, ap length split.1, length-append split.0 (drop_to f row)))

module _ {T K R : Type 0} (b : K → K → Bool) (row : T → List (K × R)) (kept : T → Type 0) where
  yields_left : (s : Pairs T K R) → kept s.index.now → YieldsList (pairs_steps b row kept) (λ p. p) s (pairs_left b row s)
  yields_left = YieldsList-from_shown_while (pairs_steps b row kept) (λ p. p) (pairs_left b row) (λ s. kept s.index.now)
      (λ s t k st. ap length (st.1 k).0)
      (λ s x t k st. (subst kept (sym st.0) k, st.1 k))

  pub yields_pairs : (x : T) (s : Pairs T K R) (k : K) → s.index.now ≡ x → kept x → (kept x → pairs_left b row s ≡ from_key b (row x) k) → YieldsList (pairs_steps b row kept) (λ p. p) s (from_key b (row x) k)
  yields_pairs x s k lent kx left = subst (YieldsList (pairs_steps b row kept) (λ p. p) s) (left kx) (yields_left s (subst kept (sym lent) kx))

-- a walk over the tags from 0 on gives them all
all_tags : (row : List (Tag × Rest)) → from_key tag_before row (record { 0 = 0 }) ≡ row
all_tags [] = refl
all_tags (p ∷ ps) = ap (λ t. cond (not t) (p ∷ ps) (from_key tag_before ps (record { 0 = 0 }))) (le-ltb p.0.0 0 (omega arith))

-- A walk over an index's tags from 0 on, which xs has come of so far, and its next step.
module _ {T : Type 0} (t : Ghosts T Tag Rest) (x : T) (made s : Pairs T Tag Rest) (is : s ≡ made) (lent : made.index.now ≡ x) (kx : t.kept x) (left : t.kept x → pairs_left tag_before t.row made ≡ from_key tag_before (t.row x) (record { 0 = 0 })) where
  pub yields_tags : YieldsList (pairs_steps tag_before t.row t.kept) (λ p. p) s (t.row x)
  yields_tags =
      subst (λ z. YieldsList (pairs_steps tag_before t.row t.kept) (λ p. p) z (t.row x)) (sym is)
      (subst (YieldsList (pairs_steps tag_before t.row t.kept) (λ p. p) made) (all_tags (t.row x)) (yields_pairs tag_before t.row t.kept x made (record { 0 = 0 }) lent kx left))

  module _ (xs : List (Tag × Rest)) (u v : Pairs T Tag Rest) (yielded : Yields (pairs_steps tag_before t.row t.kept) s xs u) (r : Option (Tag × Rest)) (step : pairs_steps tag_before t.row t.kept u r v) where
    pub next_tag : (p : Tag × Rest) → r ≡ Some p → (ps : List (Tag × Rest)) × (t.row x ≡ xs ++ (p ∷ ps))
    next_tag p e =
        let row = t.row x in
        let n = length xs in
        let turn = YieldsList-turn yields_tags xs u yielded r v p e step in
        let front : take n row ≡ xs = sym (YieldsList-so_far yields_tags xs u yielded) ∙ map-id xs in
        (drop (suc n) row, sym (take-append-drop n row) ∙ ap (λ z. z ++ drop n row) front ∙ ap (λ z. xs ++ z) (drop-cons row n p turn.0 ∙ ap (λ z. z ∷ drop (suc n) row) (sym turn.1)))

    pub last_tag : r ≡ None → xs ≡ t.row x
    last_tag e = sym (map-id xs) ∙ (YieldsList-end yields_tags xs u yielded r v e step).0

-- what is in a row by its place, and by its key
module _ {K R : Type 0} {b : K → K → Bool} (o : Order b) where
  pub behind : (p : K × R) (ps : List (K × R)) → Ascending b (p ∷ ps) → (k : K) (v : R) → lookup b ps k ≡ Some v → lookup b (p ∷ ps) k ≡ Some v
  behind p ps asc k v is = ap (λ c. cond c (Some p.1) (lookup b ps k)) (less_apart o p.0 k (after_all o p.0 ps asc.0 k v is)) ∙ is

  pub contained : (row : List (K × R)) (k : K) (v : R) → lookup b row k ≡ Some v → (i : ℕ) × (i < length row) × (get_or row i (k, v) ≡ (k, v))
  contained [] k v e = cc
  contained (p ∷ ps) k v e = go (same b p.0 k) refl e (contained ps k v)
    where
      go : (c : Bool) → same b p.0 k ≡ c → cond c (Some p.1) (lookup b ps k) ≡ Some v → (lookup b ps k ≡ Some v → (i : ℕ) × (i < length ps) × (get_or ps i (k, v) ≡ (k, v))) → (i : ℕ) × (i < suc (length ps)) × (get_or (p ∷ ps) i (k, v) ≡ (k, v))
      go true ce e ih =
          let ve : p.1 ≡ v = cc in
          (0, omega arith, λ i. (same_is o p.0 k ce i, ve i))
      go false ce e ih =
          let f = ih e in
          (suc f.0, omega (arith, f.1), f.2)

  pub there_at : (row : List (K × R)) → Ascending b row → (i : ℕ) (d : K × R) → i < length row → lookup b row (get_or row i d).0 ≡ Some (get_or row i d).1
  there_at [] asc i d h = absurd (omega (arith, h))
  there_at (p ∷ ps) asc zero d h = ap (λ c. cond c (Some p.1) (lookup b ps p.0)) (same_self o p.0)
  there_at (p ∷ ps) asc (suc i) d h = behind p ps asc (get_or ps i d).0 (get_or ps i d).1 (there_at ps asc.1 i d (omega (arith, h)))
