-- A table with one site, one request place or one message place changed: what stands where afterwards, and that its lists keep their lengths.
use mathlib.Core.Path.{◌≡◌, ap, ◌∙◌}
use mathlib.Core.List.{List}
use Prim.Native.Nat.{ℕ, ◌<◌}
use lib.ListN.{length, length-set}
use lib.Seq.{get_or-set_same, get_or-set_other, set-get_or}
use Rattle.kit.proofs.Changes.{each_set}
use Rattle.vote.specs.Shape.{ShapedSite}
use Rattle.vote.specs.Data.{no_request}
use Rattle.vote.specs.declared.data.Request.{Request}
use Rattle.vote.specs.declared.data.Site.{Site}
use Rattle.table.specs.Meaning.{ShapedRequest, ShapedMessage, ShapedTable}
use Rattle.table.specs.Places.{no_site, no_message, site_at, with_sites, with_site, with_request, with_message}
use Rattle.table.specs.declared.data.Message.{Message}
use Rattle.table.specs.declared.data.Table.{Table}

-- ---- one site

pub site_same : (t : Table) (k : ℕ) (s : Site) → k < length t.sites → site_at (with_site k s t) k ≡ s
site_same t k s h = get_or-set_same t.sites k s no_site h

pub site_other : (t : Table) (k : ℕ) (s : Site) (j : ℕ) → (j ≡ k → ⊥) → site_at (with_site k s t) j ≡ site_at t j
site_other t k s j ne = get_or-set_other t.sites k j s no_site ne

-- what holds of the site that was put, and of each other, holds of each
pub each_site : (P : ℕ → Site → Type 0) (t : Table) (k : ℕ) (s : Site) (j : ℕ) → k < length t.sites → P k s → ((j ≡ k → ⊥) → P j (site_at t j)) → P j (site_at (with_site k s t) j)
each_site P t k s j h new old = each_set P t.sites k j s no_site h new old

-- a site put back changes nothing
pub site_back : (t : Table) (k : ℕ) → with_site k (site_at t k) t ≡ t
site_back t k = ap (λ (l : List Site). with_sites l t) (set-get_or t.sites k no_site)

-- ---- lengths

pub shaped_with_site : (t : Table) (k : ℕ) (s : Site) → k < 7 → ShapedTable t → ShapedSite s → ShapedTable (with_site k s t)
shaped_with_site t k s h g new =
    let l : k < length t.sites = rw g.sites h in
    record {
      sites = length-set t.sites k s ∙ g.sites;
      requests = g.requests;
      messages = g.messages;
      site = λ j lj. each_site (λ i. ShapedSite) t k s j l new (λ ne. g.site j lj);
      request = g.request;
      message = g.message;
    }

pub shaped_with_request : (t : Table) (p : ℕ) (q : Request) → p < 16 → ShapedTable t → ShapedRequest q → ShapedTable (with_request p q t)
shaped_with_request t p q h g new =
    record {
      sites = g.sites;
      requests = length-set t.requests p q ∙ g.requests;
      messages = g.messages;
      site = g.site;
      request = λ j lj. each_set (λ i. ShapedRequest) t.requests p j q no_request (rw g.requests h) new (λ ne. g.request j lj);
      message = g.message;
    }

pub shaped_with_message : (t : Table) (i : ℕ) (m : Message) → i < 64 → ShapedTable t → ShapedMessage m → ShapedTable (with_message i m t)
shaped_with_message t i m h g new =
    record {
      sites = g.sites;
      requests = g.requests;
      messages = length-set t.messages i m ∙ g.messages;
      site = g.site;
      request = g.request;
      message = λ j lj. each_set (λ i. ShapedMessage) t.messages i j m no_message (rw g.messages h) new (λ ne. g.message j lj);
    }
