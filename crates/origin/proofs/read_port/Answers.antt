use Rattle.ascii.specs.Ascii.{is_digit}
use Rattle.origin.proofs.Laws.{laws}
use Rattle.origin.proofs.read_port.Goals as goal

pub returns-then-s-end : goal.returns-then-s-end
returns-then-s-end c = search laws

pub returns-then-s-end-ne58 : goal.returns-then-s-end-ne58
returns-then-s-end-ne58 c = search laws

pub slice_bounds-port_number-count : goal.slice_bounds-port_number-count
slice_bounds-port_number-count c = search (c.run_end-tail.ensures.is is_digit (λ b q h e. e), laws)

pub slice_bounds-port_number-start : goal.slice_bounds-port_number-start
slice_bounds-port_number-start c = search (c.run_end-tail.ensures.is is_digit (λ b q h e. e), laws)

pub slice_bounds-port_number-end : goal.slice_bounds-port_number-end
slice_bounds-port_number-end c = search (c.run_end-tail.ensures.is is_digit (λ b q h e. e), laws)

pub returns-in_err-port : goal.returns-in_err-port
returns-in_err-port c = search (c.run_end-tail.ensures.is is_digit (λ b q h e. e), laws)

pub returns : goal.returns
returns c = search (c.run_end-tail.ensures.is is_digit (λ b q h e. e), c.in_ok-port.was, laws)
