use Rattle.log_yard.proofs.yard.Yard.perform.Goals as goal

pub returns-in-Arrive : goal.returns-in-Arrive
returns-in-Arrive g c = rw c.in-Arrive.is (c.arrive.ensures c.args.page.now)

pub returns-in-Withdraw : goal.returns-in-Withdraw
returns-in-Withdraw g c = rw c.in-Withdraw.is (c.withdraw.ensures c.args.page.now)

pub returns-in-Call : goal.returns-in-Call
returns-in-Call g c = rw c.in-Call.is (c.call.ensures c.args.page.now)

pub returns-in-Saw : goal.returns-in-Saw
returns-in-Saw g c = rw c.in-Saw.is (c.saw.ensures c.args.page.now)

pub returns-in-Back : goal.returns-in-Back
returns-in-Back g c = rw c.in-Back.is (c.back.ensures c.args.page.now)

pub returns-in-Find : goal.returns-in-Find
returns-in-Find g c = rw c.in-Find.is (c.find.ensures c.args.page.now)
