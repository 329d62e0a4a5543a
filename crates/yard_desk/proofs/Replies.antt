-- The page of a reply.
use Rattle.std.proofs.Common.{◌≡◌, ℕ, ◌-◌, ◌<◌, ◌≤◌, min, List, length, take, sym, ap, ◌∙◌, ⊎_elim, arith}
use Rattle.std.proofs.lemmas.List.{take_all, length-take}
use Rattle.std.proofs.lemmas.Bool.{cases_lt}
use Rattle.logs.specs.declared.log.Log.{Log}

-- the listed part of a page
pub listed : (page : List Log) (n k : ℕ) → length page ≤ 100 → k ≡ min n (length page) → take 100 (take (k - 0) page) ≡ take n page
listed page n k l e =
    take_all 100 (take (k - 0) page) (omega (arith, length-take (k - 0) page))
    ∙ ⊎_elim
    (λ (h : n < length page). let z : k - 0 ≡ n = omega arith in ap (λ (m : ℕ). take m page) z)
    (λ (h : length page ≤ n). take_all (k - 0) page (omega arith) ∙ sym (take_all n page h))
    (cases_lt n (length page))
