-- `vote::voters::are_known_among` meets its contract: a turn notes whether a voter known in a is not known in b.
use lib.ListN.{length}
use mathlib.Core.Bool.{false}
use Rattle.std.proofs.lemmas.List.{length_push}
use Rattle.std.proofs.lemmas.Slice.Zip.{zip_turn}
use Rattle.vote.proofs.KnownVoters.{strange_more}
use Rattle.vote.proofs.voters.are_known_among.Goals as goal

pub loop-known-preserved : goal.loop-known-preserved
loop-known-preserved c =
    let t = zip_turn c.args.a.now c.args.b.now c.loop-known.yielded c.into_iter-known-iterator.result c.loop-known.known-iterator c.next.new.self _ (cc) (cc) c.loop-known.yielded_by (c.in-Some.known, c.in-Some.marked) c.in-Some.is c.next.ensures.steps in
    strange_more c.args.a.now c.args.b.now (length c.loop-known.yielded) (length_push c.loop-known.yielded (c.in-Some.known, c.in-Some.marked)) c.loop-known.invariant (t.2 false) (t.3 false)
