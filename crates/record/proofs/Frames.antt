-- The frame of a record: what the tests that lead to an answer say of it.
use mathlib.Core.Path.{◌≡◌}
use mathlib.Core.Bool.{true, false}
use mathlib.Core.List.{List}
use Prim.Native.Nat.{ℕ, ◌≤◌, ◌<◌}
use borrow.Author.Tests.{lt-ltb, le-ltb}
use lib.ListN.{length}
use Rattle.record.specs.Records.{code_of, body_of, end_of, refused, body_read, is_cut, record_of}

module _ (s : List ℕ) where
  -- fewer than three header bytes
  pub cut_header : length s < 3 → is_cut s ≡ true
  unfolding is_cut
  cut_header h = rw (lt-ltb (length s) 3 h)

  pub not_cut : 3 ≤ length s → end_of s ≤ length s → is_cut s ≡ false
  unfolding is_cut
  not_cut h l = rw (le-ltb (length s) 3 h, le-ltb (length s) (end_of s) l)

  pub record_cut : is_cut s ≡ true → record_of s ≡ refused 17 0
  unfolding record_of
  record_cut e = rw e

  pub record_whole : is_cut s ≡ false → record_of s ≡ body_read (code_of s) (body_of s) (end_of s)
  unfolding record_of
  record_whole e = rw e
