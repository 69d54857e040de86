use Rattle.cleaning.proofs.Laws.{rooms}
use Rattle.cleaning.proofs.has_room.Goals as goal

pub returns-then-body-room : goal.returns-then-body-room
returns-then-body-room c = search rooms

pub overflow_add-result : goal.overflow_add-result
overflow_add-result c = search rooms

pub overflow_add-result-2 : goal.overflow_add-result-2
overflow_add-result-2 c = search rooms

pub overflow_add-result-3 : goal.overflow_add-result-3
overflow_add-result-3 c = search rooms

pub returns : goal.returns
returns c = search rooms
