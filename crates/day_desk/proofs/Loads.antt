-- The trees of a desk that can be opened.
use Rattle.std.proofs.Common.{◌≡◌, ℕ, ◌+◌, ◌<◌, ◌≤◌, List, [], ◌∷◌, ◌++◌, length, Some, None, Ok, Err, Option, Result, OnErr, sym, refl, ap, ◌∙◌, subst, ⊎_elim, arith}
use mathlib.Core.HLevel.{Π_prop, is_prop→PathP}
use denote.Struct.Props.{props}
use Rattle.std.proofs.lemmas.Bool.{cases_lt}
use Rattle.ordered.specs.Meaning.{Ascending}
use Rattle.ordered.specs.Slots.{countable}
use Rattle.tree_layout.specs.declared.layout.Layout.{Layout}
use Rattle.tree_layout.specs.Levels.{leaf_slots, tree_slots}
use Rattle.tree_layout.specs.Rows.{LayoutOf}
use Rattle.tree_layout.proofs.Levels.{tree_up}
use Rattle.logs.specs.declared.keys.Tag.{Tag}
use Rattle.logs.specs.declared.log.Log.{Log}
use Rattle.logs.specs.declared.log.Rest.{Rest}
use Rattle.logs.specs.Limits.{TagOk, BodyOk}
use Rattle.logs.specs.Orders.{tag_before}
use Rattle.log_yard.specs.History.{present}
use Rattle.log_yard.specs.Opens.{AllFit}
use Rattle.log_yard.specs.Tells.{at}
use Rattle.log_yard.proofs.Counts.{present_like}
use Rattle.log_yard.proofs.Opened.{within_push, loaded_at_lem}
use Rattle.array_tree.specs.Filling.{capacity_of}
use Rattle.line_reader.specs.declared.request.Request.{Request}
use Rattle.line_reader.specs.declared.request.Request.TheVariants as request
use Rattle.line_reader.specs.Reads.{reads}
use Rattle.yard_desk.specs.declared.loading_desk.LoadingDesk.{LoadingDesk}
use Rattle.yard_desk.specs.declared.refusal.Refusal.{Refusal}
use Rattle.yard_desk.specs.declared.reply.Reply.{Reply}
use Rattle.yard_desk.specs.declared.reply.Reply.TheVariants.{Opened}
use Rattle.yard_desk.specs.Loading.{loaded, capacity, key, due, Loads, Logged}
use Rattle.yard_desk.specs.Loading as desk
use Rattle.day_desk.specs.declared.opening_desk.OpeningDesk.{OpeningDesk}
use Rattle.day_desk.specs.Loading.{Asked, Serves}
use Rattle.day_desk.proofs.Limits.{read_within}

fit_prop : (row : List (Tag × Rest)) → IsProp (AllFit row)
fit_prop row = Π_prop (λ t. Π_prop (λ r. Π_prop (λ e. hlevel props)))

le_prop : (m n : ℕ) → IsProp (m ≤ n)
le_prop m n = hlevel props

eq_prop : (m n : ℕ) → IsProp (m ≡ n)
eq_prop m n = hlevel props

-- ---- the room of a row
pub room_at : (m n h : ℕ) (o : Option Layout) → m ≤ n → tree_slots m h ≤ n → n < tree_slots m (h + 1) → LayoutOf m n o → capacity_of o ≡ leaf_slots m h
room_at m n h None l f t x = absurd (omega (arith, x, l))
room_at m n h (Some p) l f t x = ⊎_elim
    (λ (a : p.height < h). absurd (omega (arith, f, x.tallest h a)))
    (λ (a : h ≤ p.height). ⊎_elim
    (λ (b : p.height < h + 1). let e : p.height ≡ h = omega arith in ap (λ w. leaf_slots w p.height) x.wide ∙ ap (leaf_slots m) e)
    (λ (b : h + 1 ≤ p.height). absurd (omega (arith, tree_up m (h + 1) p.height b, x.fits, t)))
    (cases_lt p.height (h + 1)))
    (cases_lt p.height h)

-- ---- a new desk
row_empty : {K R : Type 0} (row : List (K × R)) → row ≡ [] → length row ≡ 0
row_empty row e = ap length e

pub tag_room : (loader : LoadingDesk) → length loader.tags.slots.now ≡ 255 → capacity loader ≡ 240
tag_room loader l = room_at 15 (countable (length loader.tags.slots.now)) 1 loader.tags.layout (omega (arith, l)) (omega (arith, l)) (omega (arith, l)) loader.tags.fills.laid

pub none_fit : (row : List (Tag × Rest)) → row ≡ [] → AllFit row
none_fit row e = subst AllFit (sym e) (λ t r p. let z : ◌≡◌ {A = ℕ} 0 1 = cc in absurd (omega arith))

-- a desk is its loader and its size tree
same_desk : (d d' : OpeningDesk) → d'.loader ≡ d.loader → d'.sizes ≡ d.sizes → d' ≡ d
same_desk d d' e f = λ i. record {
  loader = e i;
  sizes = f i;
  fit = is_prop→PathP (λ j. AllFit (loaded (e j))) (λ j. fit_prop (loaded (e j))) d'.fit d.fit i;
  empty = is_prop→PathP (λ j. (f j).count ≡ 0) (λ j. eq_prop (f j).count 0) d'.empty d.empty i;
  roomy = is_prop→PathP (λ j. capacity (e j) ≤ capacity_of (f j).layout) (λ j. le_prop (capacity (e j)) (capacity_of (f j).layout)) d'.roomy d.roomy i;
}

-- ---- a line handed on to the loader
module _ (d : OpeningDesk) (new : LoadingDesk) where
  fit_loaded : (x : Log) (o : Option ℕ) (r : Result Reply Refusal) → TagOk x.tag × BodyOk x.rest.body → Logged d.loader x o r new → AllFit (loaded new)
  fit_loaded x None r ok l =
      let asc : Ascending tag_before (loaded d.loader ++ ((key x, x.rest) ∷ [])) = subst (Ascending tag_before) l.1.row new.tags.fills.ascending in
      subst AllFit (sym l.1.row) (within_push (loaded d.loader) [] (key x, x.rest) asc d.fit ok.0 ok.1)
  fit_loaded x (Some n) r ok l = subst (λ y. AllFit (loaded y)) (sym l.1) d.fit

  room_loaded : (x : Log) (o : Option ℕ) (r : Result Reply Refusal) → Logged d.loader x o r new → capacity new ≡ capacity d.loader
  room_loaded x None r l = ap capacity_of l.1.layout
  room_loaded x (Some n) r l = ap capacity l.1

  module _ (line : List ℕ) (r : Result Reply Refusal) where
    pub still_fit : (q : Request) → (q ≡ request.Open → ⊥) → reads line ≡ Ok q → desk.Asked d.loader (Ok q) r new → AllFit (loaded new)
    still_fit (request.Log x) n says l = fit_loaded x (due d.loader x) r (read_within line (request.Log x) says) l
    still_fit request.Open n says l = absurd (n refl)
    still_fit (request.Call c) n says l = subst (λ y. AllFit (loaded y)) (sym l.1) d.fit

    pub still_room : (q : Request) → (q ≡ request.Open → ⊥) → desk.Asked d.loader (Ok q) r new → capacity new ≡ capacity d.loader
    still_room (request.Log x) n l = room_loaded x (due d.loader x) r l
    still_room request.Open n l = absurd (n refl)
    still_room (request.Call c) n l = ap capacity l.1

    module _ (d' : OpeningDesk) (loader : d'.loader ≡ new) (sizes : d'.sizes ≡ d.sizes) where
      unmoved : (x : Log) (o : Option ℕ) (s : Result Reply Refusal) → Logged d.loader x o s new → OnErr s (d' ≡ d)
      unmoved x o (Ok y) l = tt
      unmoved x None (Err e) l = let z : ◌≡◌ {A = ℕ} 0 1 = cc in absurd (omega arith)
      unmoved x (Some n) (Err e) l = same_desk d d' (loader ∙ l.1) sizes

      handed : (q : Request) → (q ≡ request.Open → ⊥) → desk.Asked d.loader (Ok q) r new → Asked d (Ok q) r d'
      handed (request.Log x) n l = (subst (Logged d.loader x (due d.loader x) r) (sym loader) l, sizes, unmoved x (due d.loader x) r l)
      handed request.Open n l = absurd (n refl)
      handed (request.Call c) n l = (l.0, same_desk d d' (loader ∙ l.1) sizes)

      pub handed_on : (q : Request) → (q ≡ request.Open → ⊥) → reads line ≡ Ok q → desk.Asked d.loader (Ok q) r new → Serves d line r d'
      handed_on q n says l = subst (λ o. Asked d o r d') (sym says) (handed q n l)

-- ---- the number of logs present
counted : (d : OpeningDesk) → length (loaded d.loader) ≡ present (loaded d.loader) []
counted d = present_like (loaded d.loader) [] (loaded d.loader) d.loader.tags.fills.ascending (λ t r e. (d.fit t r e).0.1) (λ t. loaded_at_lem (at (loaded d.loader) t))

pub opens : (d : OpeningDesk) (line : List ℕ) (n : ℕ) → reads line ≡ Ok request.Open → n ≡ length (loaded d.loader) → Serves d line (Ok (Opened n)) d
opens d line n says e = subst (λ q. Asked d q (Ok (Opened n)) d) (sym says) (ap (λ k. Ok (Opened k)) (e ∙ counted d), refl)
