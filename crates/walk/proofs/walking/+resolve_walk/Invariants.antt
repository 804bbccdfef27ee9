-- `walk::walking::resolve` and `walk` meet their contracts. A walk of w deferred requests measures 2 * w, a verdict before it one more; the
-- loop's invariant is that what comes from here on is what comes from the start.
use Rattle.std.proofs.Common.{◌≡◌, ◌+◌, ◌-◌, ◌*◌, ◌≤◌}
use Rattle.walk.specs.Walking.{walked, counts_of}
use Rattle.walk.proofs.walking.+resolve_walk.Given as goal

abbrev pub decreases-resolve : goal.decreases-resolve
decreases-resolve l = 2 * l.s.now.waiting + 1

abbrev pub decreases-walk : goal.decreases-walk
decreases-walk l = 2 * l.s.now.waiting

abbrev pub invariant-walk-loop-i : goal.invariant-walk-loop-i
invariant-walk-loop-i l = record {
  site : (walked l.me l.n l.requests l.s l.i).site ≡ (walked l.me l.n l.requests l.fn.s 0).site;
  counts : counts_of (walked l.me l.n l.requests l.s l.i).log ≡ counts_of (walked l.me l.n l.requests l.fn.s 0).log;
  waiting : l.s.waiting ≤ l.fn.s.waiting;
}

abbrev pub decreases-walk-loop-i : goal.decreases-walk-loop-i
decreases-walk-loop-i l = l.s.waiting - l.i
