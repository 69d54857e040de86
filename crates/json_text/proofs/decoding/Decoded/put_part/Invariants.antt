use Rattle.json_text.specs.code.Held.{content}
use Rattle.json_text.proofs.Holding.{Part}
use Rattle.json_text.proofs.decoding.Decoded.put_part.Given as goal

abbrev pub invariant-loop-b : goal.invariant-loop-b
invariant-loop-b l = Part l.part (content l.initial.self) (content l.self) l.b-index
