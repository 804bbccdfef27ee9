-- `table::sound::sound` meets its contract: three loops that return at the first that fails.
use Rattle.kit.proofs.Loops.{Held}
use Rattle.table.proofs.Whole.{request_right, site_right, message_right}
use Rattle.table.proofs.sound.sound.Given as goal

abbrev pub invariant-loop-p : goal.invariant-loop-p
invariant-loop-p l = Held 16 (request_right l.t l.gathered.lasts l.gathered.stamps) l.p

abbrev pub invariant-loop-k : goal.invariant-loop-k
invariant-loop-k l = Held 7 (site_right l.t l.gathered.lasts l.gathered.stamps l.gathered.marked.oks l.gathered.marked.others) l.k

abbrev pub invariant-loop-m : goal.invariant-loop-m
invariant-loop-m l = Held 64 (message_right l.t l.gathered.stamps l.gathered.marked.oks l.gathered.marked.others) l.m-index
