use Rattle.std.proofs.Common.{rules}
use Rattle.log_yard.proofs.Lists as lists
use Rattle.log_yard.proofs.yard.Yard.list.Goals as goal

pub returns : goal.returns
returns g c = record {
  law = λ cap ls h told.
      let ks = told.sound.sizes_kept in
      lists.list_ok g.T.OrderedIndex g.S.OrderedIndex cap ls h c.args.self.now told (c.fill-count.ensures ks).0 c.args.species c.args.low c.args.high
      c.args.page.now c.fill-count.new.page c.fill-count.result (search rules) (search rules) (c.fill-count.ensures ks).1;
  still = tt;
  page = tt;
}
