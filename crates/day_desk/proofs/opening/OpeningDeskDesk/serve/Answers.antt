use Rattle.std.proofs.Common.{◌≡◌, Ok, sym, refl, ap, ◌∙◌, arith}
use Rattle.line_reader.specs.declared.request.Request.TheVariants as request
use Rattle.line_reader.specs.Reads.{reads}
use Rattle.day_desk.proofs.Loads.{still_fit, still_room, handed_on, opens}
use Rattle.day_desk.proofs.opening.OpeningDeskDesk.serve.Goals as goal

pub invariant_of-self : goal.invariant_of-self
invariant_of-self c =
    let says = sym c.read_request.ensures ∙ c.in_ok-request.was in
    let room = still_room c.args.self.now c.load.new.self c.args.line.now c.load.result c.in_ok-request.request c.in_default.not-Open c.load.ensures in
    record {
      fit = still_fit c.args.self.now c.load.new.self c.args.line.now c.load.result c.in_ok-request.request c.in_default.not-Open says c.load.ensures;
      empty = c.args.self.now.empty;
      roomy = omega (arith, room, c.args.self.now.roomy);
    }

pub returns-in_default : goal.returns-in_default
returns-in_default c =
    handed_on c.args.self.now c.load.new.self c.args.line.now c.load.result _ refl refl c.in_ok-request.request c.in_default.not-Open (sym c.read_request.ensures ∙ c.in_ok-request.was) c.load.ensures

pub returns-in-Open : goal.returns-in-Open
returns-in-Open c =
    let says : reads c.args.line.now ≡ Ok request.Open = sym c.read_request.ensures ∙ c.in_ok-request.was ∙ ap Ok c.in-Open.is in
    opens c.args.self.now c.args.line.now c.count.result says c.count.ensures
