-- Slots that hold a row from the first on, and one more pair after it.
use Rattle.std.proofs.Common.{◌≡◌, ℕ, zero, suc, ◌<◌, Bool, true, List, [], ◌∷◌, ◌++◌, length, get_or, set, sym, refl, ap, arith}
use Rattle.ordered.specs.declared.slot.Slot.{Slot}
use Rattle.ordered.specs.Meaning.{After, Ascending}
use Rattle.ordered.specs.Slots.{Holds}
use Rattle.array_tree.specs.Filling.{follows, filled_with}

module _ {K R : Type 0} where
  -- the slot of the last pair shows whether a key may follow
  pub holds_last : (b : K → K → Bool) (k : K) (row : List (K × R)) (ss : List (Slot K R)) (n : ℕ) (d : Slot K R) → Holds row ss → length row ≡ suc n → follows b row k ≡ b (get_or ss n d).key k
  holds_last b k [] ss n d h e = absurd (omega arith)
  holds_last b k (p ∷ row) [] n d h e = absurd h
  holds_last b k (p ∷ []) (s ∷ ss) zero d h e = ap (λ x. b x k) (sym h.0.1)
  holds_last b k (p ∷ []) (s ∷ ss) (suc n) d h e = absurd (omega arith)
  holds_last b k (p ∷ (q ∷ row)) (s ∷ ss) zero d h e = absurd (omega arith)
  holds_last b k (p ∷ (q ∷ row)) (s ∷ ss) (suc n) d h e = holds_last b k (q ∷ row) ss n d h.1 (omega arith)

  pub holds_push : (k : K) (v : R) (row : List (K × R)) (ss : List (Slot K R)) (n : ℕ) → Holds row ss → n ≡ length row → n < length ss → Holds (row ++ ((k, v) ∷ [])) (set ss n (filled_with k v))
  holds_push k v [] [] n h e l = absurd (omega arith)
  holds_push k v [] (s ∷ ss) zero h e l = ((refl, refl, refl), h.1)
  holds_push k v [] (s ∷ ss) (suc n) h e l = absurd (omega arith)
  holds_push k v (p ∷ row) [] n h e l = absurd h
  holds_push k v (p ∷ row) (s ∷ ss) zero h e l = absurd (omega arith)
  holds_push k v (p ∷ row) (s ∷ ss) (suc n) h e l = (h.0, holds_push k v row ss n h.1 (omega arith) (omega arith))

module _ {K R : Type 0} (b : K → K → Bool) (transitive : (x y z : K) → b x y ≡ true → b y z ≡ true → b x z ≡ true) (k : K) (v : R) where
  after_push : (x : K) (row : List (K × R)) → After b x row → b x k ≡ true → After b x (row ++ ((k, v) ∷ []))
  after_push x [] a e = (e, tt)
  after_push x (p ∷ row) a e = (a.0, after_push x row a.1 e)

  last_before : (p : K × R) (row : List (K × R)) → Ascending b (p ∷ row) → follows b (p ∷ row) k ≡ true → b p.0 k ≡ true
  last_before p [] a f = f
  last_before p (q ∷ row) a f = transitive _ q.0 _ a.0.0 (last_before q row a.1 f)

  pub ascending_push : (row : List (K × R)) → Ascending b row → follows b row k ≡ true → Ascending b (row ++ ((k, v) ∷ []))
  ascending_push [] a f = (tt, tt)
  ascending_push (p ∷ []) a f = ((f, tt), (tt, tt))
  ascending_push (p ∷ (q ∷ row)) a f = (after_push p.0 (q ∷ row) a.0 (last_before p (q ∷ row) a f), ascending_push (q ∷ row) a.1 f)
