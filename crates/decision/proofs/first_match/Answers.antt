use borrow.Author.Rules.{rules}
use Rattle.decision.proofs.SeekLaws.{seek_found}
use Rattle.decision.proofs.Laws.{seeking}
use Rattle.decision.proofs.first_match.Goals as goal

pub loop-cause-init : goal.loop-cause-init
loop-cause-init c = search seeking

pub returns-then-matches : goal.returns-then-matches
returns-then-matches c = seek_found c.loop-cause.invariant c.advance.ensures c.in-Some.is (search rules) c.held.ensures c.matches.ensures c.if-matches.true

pub loop-cause-smaller-then-is_none : goal.loop-cause-smaller-then-is_none
loop-cause-smaller-then-is_none c = search seeking

pub loop-cause-preserved-then-is_none : goal.loop-cause-preserved-then-is_none
loop-cause-preserved-then-is_none c = search seeking

pub loop-cause-smaller : goal.loop-cause-smaller
loop-cause-smaller c = search seeking

pub loop-cause-preserved : goal.loop-cause-preserved
loop-cause-preserved c = search seeking

pub returns : goal.returns
returns c = search seeking
