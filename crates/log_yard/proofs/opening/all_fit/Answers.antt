use Rattle.std.proofs.Common.{ℕ, ◌<◌, Bool, true, false, List, [], ◌∷◌, length, get_or, Decides, MatchBool, refl, subst, arith, rules, tests}
use Rattle.std.specs.List.{AllWithin, HoldsAt}
use Rattle.std.proofs.lemmas.Bool.{false≢true}
use Rattle.std.proofs.lemmas.Iterator.{cases_from_all}
use Rattle.ordered.specs.Meaning.{Ascending}
use Rattle.logs.specs.declared.keys.Tag.{Tag}
use Rattle.logs.specs.declared.log.Rest.{Rest}
use Rattle.logs.specs.Lex.{tag_order}
use Rattle.logs.specs.Limits.{TagOk, BodyOk}
use Rattle.logs.specs.Orders.{tag_before}
use Rattle.log_yard.specs.Opens.{AllFit}
use Rattle.log_yard.proofs.Walking.{yields_tags, contained, there_at}
use Rattle.log_yard.proofs.opening.all_fit.Goals as goal

abbrev Fits : Tag × Rest → Type 0
Fits p = TagOk p.0.0 × BodyOk p.1.body

decides : (r : Bool) (row : List (Tag × Rest)) → Ascending tag_before row → MatchBool r (AllWithin Fits row 0 (length row)) ((k : ℕ) × (k < length row) × HoldsAt (λ p. Fits p → ⊥) row k) → Decides r (AllFit row)
decides true row asc h = (λ _ t r is. let f = contained tag_order row (record { 0 = t }) r is in subst Fits f.2 (h f.0 (record { 0 = t }, r) (omega arith) f.1), λ _. refl)
decides false [] asc h = absurd (omega (arith, h.1))
decides false (p ∷ ps) asc h = (
  λ e. absurd (false≢true e),
  λ w. let q = get_or (p ∷ ps) h.0 p in absurd (h.2 p (w q.0.0 q.1 (there_at tag_order (p ∷ ps) asc h.0 p h.1))),
)

pub returns : goal.returns
returns g c = λ kt.
    let t = g.T.OrderedIndex in
    let x = c.args.tags.now in
    decides c.all.result (t.row x) (c.from_key.ensures.ascends kt)
    (cases_from_all c.all.new.self _ _ Fits (λ p. Fits p → ⊥) c.all.ensures.ran (yields_tags t x c.from_key.result _ refl c.from_key.ensures.lent kt c.from_key.ensures.left) (λ p q k. search (rules, tests)) (λ p q k. search (rules, tests)))
