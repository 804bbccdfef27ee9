-- Document 01, "Steps": what each step makes of a sound table.
use Rattle.std.specs.Prelude.{Result, ℕ, ◌-◌, Bool, true, false, cond, [], eqb, ℤ, pos, get_or}
use Rattle.kit.specs.Lists.{changed}
use Rattle.plans.specs.Changes.{stored, message_from, forgotten}
use Rattle.record.specs.declared.Step.{Step}
use Rattle.stamps.specs.Issue.{issued, issue_stamp, issue_last}
use Rattle.refusals.specs.declared.Refusal.{Refusal}
use Rattle.stamps.specs.declared.Given.{Given}
use Rattle.table.specs.Fresh.{blank_message}
use Rattle.table.specs.Places.{site_at, message_at, with_site, with_sites, with_request, with_message}
use Rattle.table.specs.Sound.{sound_table}
use Rattle.table.specs.declared.data.Message.{Message}
use Rattle.table.specs.declared.data.Table.{Table}
use Rattle.vote.specs.Data.{blank_request, with_last, with_up}
use Rattle.vote.specs.declared.data.Site.{Site}
use Rattle.walk.specs.Hearing.{taken_up, received}
use Rattle.walk.specs.Walking.{Out}
use Rattle.steps.specs.Answers.{Done, stepped_as, refused_as}
use Rattle.steps.specs.Numbers.{free_place, free_message, place_of, begin_number, tell_number, deliver_number, drop_number, down_number, up_number, retire_number, read_number}
use Rattle.steps.specs.Answers.{Stepped}

-- what a site did, in the table: site k of t is now as `out` left it
abbrev pub done_at : ℕ → ℤ → ℕ → Out → Table → Done
done_at k first second out t = record { table = with_site k out.site t; first = first; second = second; log = out.log }

-- a step at which no site says anything
abbrev pub done_quietly : ℤ → ℕ → Table → Done
done_quietly first second t = record { table = t; first = first; second = second; log = [] }

-- ---- 1 begin

-- the stamp that the beginning site issues
abbrev pub issue_for : Table → Step → Result Given Refusal
issue_for t a = issued a.site a.clock (site_at t (a.site - 1)).last a.base a.stamps

-- "Begin stores the request in the lowest free place": the table with the stamp issued and the request stored
unfoldable pub entered : Table → Step → Table
entered t a =
    with_request (free_place t) (stored a (issue_stamp (issue_for t a)))
    (with_site (a.site - 1) (with_last (issue_last (site_at t (a.site - 1)).last (issue_for t a)) (site_at t (a.site - 1))) t)

-- "and its site considers it, having no votes of others"
unfoldable pub begun : Table → Step → Done
begun t a =
    done_at (a.site - 1) (pos (issue_stamp (issue_for t a))) (free_place t)
    (taken_up (a.site - 1) t.count (entered t a).requests (site_at (entered t a) (a.site - 1)) (free_place t))
    (entered t a)

-- ---- 2 tell

-- "Tell puts a message in the lowest free place"
unfoldable pub told : Table → Step → Done
told t a =
    done_quietly (pos (free_message t)) 0
    (with_message (free_message t) (message_from (site_at t (a.site - 1)) (place_of t a.stamp) (a.site - 1) (a.to - 1)) t)

-- ---- 3 deliver

-- "Deliver leaves the message where it is."
unfoldable pub delivered : Table → Step → Done
delivered t a =
    let m : Message = message_at t a.place in
    done_at m.to (pos 0) 0
    (received m.to t.count t.requests (site_at t m.to) m.request m.verdict m.oks m.others)
    t

-- ---- 4 drop

-- "Losing a message empties that one place and leaves the other 63 as they were."
unfoldable pub dropped : Table → Step → Done
dropped t a = done_quietly (pos 0) 0 (with_message a.place blank_message t)

-- ---- 5, 6 down, up

-- "A site that is down keeps all it holds."
unfoldable pub put_up : Bool → Table → Step → Done
put_up up t a = done_quietly (pos 0) 0 (with_site (a.site - 1) (with_up up (site_at t (a.site - 1))) t)

-- ---- 7 retire

-- "Retire frees the request's place"
unfoldable pub retired : Table → Step → Done
retired t a =
    let p : ℕ = place_of t a.stamp in
    done_quietly (pos 0) 0 (with_request p blank_request (with_sites (changed 7 (forgotten p) t.sites) t))

-- ---- 8 read

-- read: "value, stamp"
unfoldable pub readings : Table → Step → Done
readings t a =
    let s : Site = site_at t (a.site - 1) in
    done_quietly (get_or s.values a.item (pos 0)) (get_or s.stamps a.item 0) t

-- ---- the step

-- refused with its number, or done
abbrev pub unless_refused : ℕ → Done → Table → Stepped
unless_refused number d t = cond (eqb number 0) (stepped_as d) (refused_as number t)

-- from a sound table; "Any code from 9 to 255, and 0, is no step."
unfoldable pub advanced : Table → Step → Stepped
advanced t a =
    cond (eqb a.code 1) (unless_refused (begin_number t a) (begun t a) t)
    (cond (eqb a.code 2) (unless_refused (tell_number t a) (told t a) t)
    (cond (eqb a.code 3) (unless_refused (deliver_number t a) (delivered t a) t)
    (cond (eqb a.code 4) (unless_refused (drop_number t a) (dropped t a) t)
    (cond (eqb a.code 5) (unless_refused (down_number t a) (put_up false t a) t)
    (cond (eqb a.code 6) (unless_refused (up_number t a) (put_up true t a) t)
    (cond (eqb a.code 7) (unless_refused (retire_number t a) (retired t a) t)
    (cond (eqb a.code 8) (unless_refused (read_number t a) (readings t a) t)
    (refused_as 2 t))))))))

-- "1: table not sound", then the step
unfoldable pub stepped : Table → Step → Stepped
stepped t a = cond (sound_table t) (advanced t a) (refused_as 1 t)
