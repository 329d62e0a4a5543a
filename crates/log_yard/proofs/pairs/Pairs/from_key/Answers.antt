use Rattle.std.proofs.Common.{refl}
use Rattle.ordered.specs.Meaning.{at_or_above}
use Rattle.log_yard.proofs.Walking.{walk_from}
use Rattle.log_yard.proofs.pairs.Pairs.from_key.Goals as goal

pub returns-clause-left : goal.returns-clause-left
returns-clause-left g c = λ kt. walk_from g.met.K.Key.ordered (g.T.OrderedIndex.row c.args.index.now) (c.count.ensures.meaning.orderly kt).ascending c.args.key (at_or_above g.K.Key.before (g.T.OrderedIndex.row c.args.index.now) c.args.key) c.count.result refl (c.count.ensures.meaning.gives kt)
