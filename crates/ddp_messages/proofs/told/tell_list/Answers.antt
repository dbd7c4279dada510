use Rattle.ddp_messages.proofs.PlaceLaws.{list_stands}
use Rattle.ddp_messages.proofs.told.tell_list.Goals as goal

pub returns-in-List-clause-read : goal.returns-in-List-clause-read
returns-in-List-clause-read c = list_stands c.args.reader.now c.next_value.new.reader c.in_ok-items.field-0 c.in-List.items c.in-List.is c.in_ok-items.ensures.read
