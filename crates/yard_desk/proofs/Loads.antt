-- What feeding the tree of a desk comes to.
use Rattle.std.proofs.Common.{◌≡◌, ℕ, Ok, Err, Some, None, Option, Result, sym, refl, subst}
use Rattle.ordered.specs.declared.fault.Fault.{Fault}
use Rattle.ordered.specs.Faults.{Outcome}
use Rattle.logs.specs.declared.log.Log.{Log}
use Rattle.array_tree.specs.Trees.{Fed}
use Rattle.line_reader.specs.declared.request.Request.{Request}
use Rattle.line_reader.specs.declared.request.Request.TheVariants as request
use Rattle.yard_desk.specs.declared.loading_desk.LoadingDesk.{LoadingDesk}
use Rattle.yard_desk.specs.declared.refusal.Refusal.{Refusal}
use Rattle.yard_desk.specs.declared.refusal.Refusal.TheVariants.{Load}
use Rattle.yard_desk.specs.declared.reply.Reply.{Reply}
use Rattle.yard_desk.specs.declared.reply.Reply.TheVariants.{Done}
use Rattle.yard_desk.specs.Loading.{key, due, Loads, Logged, Refuses, Asked}

module _ (d : LoadingDesk) (x : Log) (d' : LoadingDesk) where
  logged : (o : Option ℕ) (u : Unit {0}) (r : Result Reply Refusal) → Outcome {X = Unit {0}} o (Ok u) → r ≡ Ok (Done x.tag) → Loads d x d' → Logged d x o r d'
  logged None u r out e l = (e, l)
  logged (Some n) u r out e l = absurd out

  refused : (o : Option ℕ) (f : Fault) (r : Result Reply Refusal) → Outcome {X = Unit {0}} o (Err f) → r ≡ Err (Load f) → d' ≡ d → Logged d x o r d'
  refused None f r out e l = absurd out
  refused (Some n) f r out e l = (subst (Refuses n) (sym e) (out, refl), l)

  module _ (q : Request) (is : q ≡ request.Log x) where
    pub loads : (u : Unit {0}) (r : Result Reply Refusal) → r ≡ Ok (Done x.tag) → Fed (key x) x.rest (Ok u) d.tags d'.tags → Asked d (Ok q) r d'
    loads u r e fed = subst (λ o. Asked d (Ok o) r d') (sym is) (logged (due d x) u r fed.outcome e (record {
      row = fed.row;
      slots = fed.slots;
      layout = fed.layout;
    }))

    pub declines : (f : Fault) (r : Result Reply Refusal) → r ≡ Err (Load f) → Fed (key x) x.rest (Err f) d.tags d'.tags → Asked d (Ok q) r d'
    declines f r e fed = subst (λ o. Asked d (Ok o) r d') (sym is) (refused (due d x) f r fed.outcome e (λ i. record { tags = fed.unmoved i }))
