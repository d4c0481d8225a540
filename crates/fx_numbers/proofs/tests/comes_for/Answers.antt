use Rattle.fx_numbers.proofs.Trying.{came_there, may_ask_any}
use Rattle.fx_numbers.proofs.tests.comes_for.Goals as goal

pub room-requires : goal.room-requires
room-requires c = came_there c.args.numbers.now c.enter.new.self c.in_ok-who.who c.in_ok-who.ensures.step

pub ask-requires : goal.ask-requires
ask-requires c = may_ask_any c.args.numbers.now c.enter.new.self c.room.new.self c.in_ok-who.who c.room.new.self.table c.in_ok-who.ensures.step c.in_ok-room.ensures.step c.args.key
