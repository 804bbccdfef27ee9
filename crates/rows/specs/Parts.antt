-- Requests taken apart: their heads; and their base stamps, and their new values, in rows of 24, item i of place p at 24 × p + i.
use Rattle.std.specs.Prelude.{ℕ, zero, suc, ◌+◌, ◌*◌, cond, List, ltb, ℤ, pos, get_or, set, replicate}
use Rattle.kit.specs.Lists.{listed}
use Rattle.vote.specs.Data.{head_at, request_at, request_of}
use Rattle.vote.specs.declared.data.Head.{Head}
use Rattle.vote.specs.declared.data.Request.{Request}

-- item i of the row of place p
unfoldable pub row_item : {A : Type 0} → A → List A → ℕ → ℕ → A
row_item d l p i = get_or l (24 * p + i) d

-- the row of place p; that of a place above 15 is blank
unfoldable pub row_at : {A : Type 0} → A → List A → ℕ → List A
row_at d l p = cond (ltb p 16) (listed 24 (row_item d l p)) (replicate 24 d)

-- l with the first n of these in the row of place p
unfoldable pub row_up_to : {A : Type 0} → ℕ → A → List A → ℕ → List A → List A
row_up_to zero d l p row = l
row_up_to (suc n) d l p row = set (row_up_to n d l p row) (24 * p + n) (get_or row n d)

-- with all 24, where p is one of the 16 places
unfoldable pub with_row : {A : Type 0} → A → List A → ℕ → List A → List A
with_row d l p row = cond (ltb p 16) (row_up_to 24 d l p row) l

-- the heads with these stamps, base sets and update sets
unfoldable pub heads_from : List ℕ → List ℕ → List ℕ → List Head
heads_from names bases updates = listed 16 (λ p. record { stamp = get_or names p 0; base = get_or bases p 0; update = get_or updates p 0 })

-- the requests of these heads, base stamps and new values
unfoldable pub requests_from : List Head → List ℕ → List ℤ → List Request
requests_from heads based news = listed 16 (λ p. request_of (head_at heads p) (row_at 0 based p) (row_at (pos 0) news p))

-- the first z rows, which f gives, and blank ones
unfoldable pub rows_up_to : {A : Type 0} → A → (ℕ → List A) → ℕ → List A
rows_up_to d f zero = replicate 384 d
rows_up_to d f (suc z) = with_row d (rows_up_to d f z) z (f z)

-- the base stamps of these requests, and their new values
unfoldable pub based_of : List Request → List ℕ
based_of rs = rows_up_to 0 (λ z. (request_at rs z).stamps) 16

unfoldable pub news_of : List Request → List ℤ
news_of rs = rows_up_to (pos 0) (λ z. (request_at rs z).values) 16

-- the stamps of these requests, their base sets and their update sets
unfoldable pub names_of : List Request → List ℕ
names_of rs = listed 16 (λ p. (request_at rs p).stamp)

unfoldable pub bases_of : List Request → List ℕ
bases_of rs = listed 16 (λ p. (request_at rs p).base)

unfoldable pub updates_of : List Request → List ℕ
updates_of rs = listed 16 (λ p. (request_at rs p).update)
