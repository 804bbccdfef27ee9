-- Requests taken apart: rows written, and that the parts put together again are the requests.
use Prim.Native.Nat.{ℕ, zero, suc, ◌+◌, ◌*◌, ◌≤◌, ◌<◌}
use mathlib.Core.List.{List}
use mathlib.Core.Path.{◌≡◌, refl, ap, sym, ◌∙◌}
use native.Mathlib.Omega.{arith}
use borrow.Author.Tests.{lt-ltb, le-ltb}
use lib.IntN.{pos}
use lib.ListN.{length, get_or, length-set, length-replicate}
use lib.Seq.{get_or-set_same, get_or-set_other}
use Rattle.kit.specs.Lists.{listed}
use Rattle.kit.proofs.Bools.{by_eq, by_lt}
use Rattle.kit.proofs.Listings.{length_listed, listed_at, listed_same, listed_of}
use Rattle.vote.specs.Data.{no_head, no_request, head_at, head_of, heads_of, request_at, request_of}
use Rattle.vote.specs.declared.data.Request.{Request}
use Rattle.rows.specs.Parts.{row_item, row_at, row_up_to, with_row, rows_up_to, heads_from, requests_from, based_of, news_of, names_of, bases_of, updates_of}

module _ {A : Type 0} (d : A) where
  row_is : (l : List A) (p : ℕ) → p < 16 → row_at d l p ≡ listed 24 (row_item d l p)
  unfolding row_at
  row_is l p h = rw (lt-ltb p 16 h)

  -- ---- a row written

  row_in : (l : List A) (p : ℕ) (row : List A) → p < 16 → with_row d l p row ≡ row_up_to 24 d l p row
  unfolding with_row
  row_in l p row h = rw (lt-ltb p 16 h)

  -- no row of no place
  pub row_out : (l : List A) (p : ℕ) (row : List A) → 16 ≤ p → l ≡ with_row d l p row
  unfolding with_row
  row_out l p row h = rw (le-ltb p 16 h)

  -- what stands then: in the row of place p the new items, and in the others what stood there

  length_up_to : (n : ℕ) (l : List A) (p : ℕ) (row : List A) → length (row_up_to n d l p row) ≡ length l
  unfolding row_up_to
  length_up_to zero l p row = refl
  length_up_to (suc n) l p row = length-set (row_up_to n d l p row) (24 * p + n) _ ∙ length_up_to n l p row

  there : (n : ℕ) (l : List A) (p : ℕ) (row : List A) (k : ℕ) → ((u : ℕ) → u < n → k ≡ 24 * p + u → ⊥) → get_or (row_up_to n d l p row) k d ≡ get_or l k d
  unfolding row_up_to
  there zero l p row k h = refl
  there (suc n) l p row k h =
      get_or-set_other (row_up_to n d l p row) (24 * p + n) k _ d (h n (omega arith)) ∙ there n l p row k (λ u b. h u (omega arith))

  here : (n : ℕ) (l : List A) (p : ℕ) (row : List A) (u : ℕ) → u < n → 24 * p + u < length l → get_or (row_up_to n d l p row) (24 * p + u) d ≡ get_or row u d
  unfolding row_up_to
  here zero l p row u h b = absurd (let z : ⊥ = omega arith in z)
  here (suc n) l p row u h b =
      by_eq u n (λ e. rw e (get_or-set_same (row_up_to n d l p row) (24 * p + n) _ d (rw (length_up_to n l p row, ← e) b)))
      (λ ne. get_or-set_other (row_up_to n d l p row) (24 * p + n) (24 * p + u) _ d (λ q. ne (omega arith)) ∙ here n l p row u (omega (arith, ne)) b)

  pub length_row : (l : List A) (p : ℕ) (row : List A) → length (with_row d l p row) ≡ length l
  length_row l p row = by_lt p 16 (λ h. rw (row_in l p row h) (length_up_to 24 l p row)) (λ h. ap length (sym (row_out l p row h)))

  pub row_here : (l : List A) (p : ℕ) (row : List A) → length l ≡ 384 → p < 16 → length row ≡ 24 → row_at d (with_row d l p row) p ≡ row
  unfolding row_item
  row_here l p row len h long =
      rw (row_in l p row h) (row_is (row_up_to 24 d l p row) p h)
      ∙ listed_same 24 (row_item d (row_up_to 24 d l p row) p) (λ i. get_or row i d) (λ i b. here 24 l p row i b (omega arith))
      ∙ sym (listed_of 24 row d long)

  pub row_there : (l : List A) (p : ℕ) (row : List A) (q : ℕ) → (q ≡ p → ⊥) → q < 16 → row_at d (with_row d l p row) q ≡ row_at d l q
  unfolding row_item
  row_there l p row q ne h =
      by_lt p 16
      (λ b. rw (row_in l p row b)
      (row_is (row_up_to 24 d l p row) q h
      ∙ listed_same 24 (row_item d (row_up_to 24 d l p row) q) (row_item d l q)
      (λ i b. there 24 l p row (24 * q + i) (λ u k e. ne (omega arith)))
      ∙ sym (row_is l q h)))
      (λ b. ap (λ (w : List A). row_at d w q) (sym (row_out l p row b)))

  -- ---- all rows written

  length_rows : (f : ℕ → List A) (z : ℕ) → length (rows_up_to d f z) ≡ 384
  unfolding rows_up_to
  length_rows f zero = length-replicate 384 d
  length_rows f (suc z) = length_row (rows_up_to d f z) z (f z) ∙ length_rows f z

  -- each is where it belongs
  rows_at : (f : ℕ → List A) (z p : ℕ) → z ≤ 16 → p < z → length (f p) ≡ 24 → row_at d (rows_up_to d f z) p ≡ f p
  unfolding rows_up_to
  rows_at f zero p h b long = absurd (let x : ⊥ = omega arith in x)
  rows_at f (suc z) p h b long =
      by_eq p z (λ e. rw (← e) (row_here (rows_up_to d f p) p (f p) (length_rows f p) (omega arith) long))
      (λ ne. row_there (rows_up_to d f z) z (f z) p ne (omega arith) ∙ rows_at f z p (omega arith) (omega (arith, ne)) long)

-- ---- the heads in their three rows

-- the heads of requests
heads_apart : (rs : List Request) → heads_from (names_of rs) (bases_of rs) (updates_of rs) ≡ heads_of rs
unfolding heads_from heads_of names_of bases_of updates_of
heads_apart rs =
    listed_same 16 (λ p. record { stamp = get_or (names_of rs) p 0; base = get_or (bases_of rs) p 0; update = get_or (updates_of rs) p 0 }) (λ p. head_of (request_at rs p))
    (λ p h. rw (
      listed_at 16 p (λ j. (request_at rs j).stamp) 0 h,
      listed_at 16 p (λ j. (request_at rs j).base) 0 h,
      listed_at 16 p (λ j. (request_at rs j).update) 0 h,
    ))

-- requests taken apart and put together again are the same
pub taken_apart
    : (rs : List Request) → length rs ≡ 16
    → ((p : ℕ) → p < 16 → (length (request_at rs p).stamps ≡ 24) × (length (request_at rs p).values ≡ 24))
    → requests_from (heads_from (names_of rs) (bases_of rs) (updates_of rs)) (based_of rs) (news_of rs) ≡ rs
unfolding requests_from heads_of based_of news_of
taken_apart rs few long =
    rw (heads_apart rs)
    (listed_same 16 (λ p. request_of (head_at (heads_of rs) p) (row_at 0 (based_of rs) p) (row_at (pos 0) (news_of rs) p)) (λ p. request_at rs p)
    (λ p h. rw (
      listed_at 16 p (λ j. head_of (request_at rs j)) no_head h,
      rows_at 0 (λ z. (request_at rs z).stamps) 16 p (omega arith) h (long p h).0,
      rows_at (pos 0) (λ z. (request_at rs z).values) 16 p (omega arith) h (long p h).1,
    ))
    ∙ sym (listed_of 16 rs no_request few))

-- how long the rows are
pub length_based : (rs : List Request) → length (based_of rs) ≡ 384
unfolding based_of
length_based rs = length_rows 0 (λ z. (request_at rs z).stamps) 16

pub length_news : (rs : List Request) → length (news_of rs) ≡ 384
unfolding news_of
length_news rs = length_rows (pos 0) (λ z. (request_at rs z).values) 16

pub length_names : (rs : List Request) → length (names_of rs) ≡ 16
unfolding names_of
length_names rs = length_listed 16 (λ p. (request_at rs p).stamp)

pub length_bases : (rs : List Request) → length (bases_of rs) ≡ 16
unfolding bases_of
length_bases rs = length_listed 16 (λ p. (request_at rs p).base)

pub length_updates : (rs : List Request) → length (updates_of rs) ≡ 16
unfolding updates_of
length_updates rs = length_listed 16 (λ p. (request_at rs p).update)
