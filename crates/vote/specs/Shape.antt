-- The lengths of a site's lists, which every site in memory has.
use Rattle.std.specs.Prelude.{◌≡◌, length}
use Rattle.vote.specs.declared.data.Site.{Site}

pub record ShapedSite (s : Site) : Type 0 where
  pub stamps : length s.stamps ≡ 24
  pub values : length s.values ≡ 24
  pub queue : length s.queue ≡ 16
  pub votes : length s.votes ≡ 16
  pub oks : length s.oks ≡ 112
  pub others : length s.others ≡ 112
