use Rattle.std.proofs.Common.{◌≡◌, ◌≢◌, arith, rules}
use Rattle.log_yard.proofs.Fits as fits
use Rattle.log_yard.proofs.yard.Yard.first_fit.Goals as goal

pub returns-in_err-key : goal.returns-in_err-key
returns-in_err-key g c = rw c.from_residual.ensures (λ ks _. fits.none_left (g.S.OrderedIndex.row c.args.self.now.sizes) (c.at_or_above.ensures.meaning.orderly ks).ascending c.args.species c.args.diameter c.loop-d.d c.args.length (c.loop-d.invariant.1 ks) (c.in_err-key.ensures.meaning.gives ks))

pub returns-then-ne : goal.returns-then-ne
returns-then-ne g c = λ ks _.
    let ne : c.in_ok-key.key.species ≢ c.args.species = search rules in
    fits.none_more (g.S.OrderedIndex.row c.args.self.now.sizes) (c.at_or_above.ensures.meaning.orderly ks).ascending c.args.species c.args.diameter c.loop-d.d c.args.length _ (c.in_ok-key.ensures.meaning.gives ks) (c.loop-d.invariant.1 ks) ne

pub returns-then-key-length : goal.returns-then-key-length
returns-then-key-length g c = λ ks _.
    let sp : c.in_ok-key.key.species ≡ c.args.species = search rules in
    fits.first_found (g.S.OrderedIndex.row c.args.self.now.sizes) (c.at_or_above.ensures.meaning.orderly ks).ascending c.args.species c.args.diameter c.loop-d.d c.args.length _ (c.in_ok-key.ensures.meaning.gives ks) sp (c.loop-d.invariant.1 ks) c.loop-d.invariant.0 c.if-key-length.true

pub loop-d-preserved : goal.loop-d-preserved
loop-d-preserved g c = (
  omega (arith, c.loop-d.invariant.0, c.max-d.ensures),
  λ ks k v is f.
      let sp : c.in_ok-key.key.species ≡ c.args.species = search rules in
      let row = g.S.OrderedIndex.row c.args.self.now.sizes in
      let asc = (c.at_or_above.ensures.meaning.orderly ks).ascending in
      let got = c.in_ok-key.ensures.meaning.gives ks in
      omega (arith, c.max-d.ensures, fits.thicker row asc c.args.species c.args.diameter c.loop-d.d c.args.length _ got sp c.if-key-length.false, fits.beyond_next row asc c.args.species c.args.diameter c.loop-d.d c.args.length _ got sp (c.loop-d.invariant.1 ks) k v is f),
)
