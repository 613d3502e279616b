-- What a caller makes of a request's number, whatever the bytes: divided by 2^32 it is the refusal's number, 1 to 20, and 0 where the request was accepted. So no number is lost, and no refusal is
-- taken for an acceptance. Nor is a place: a refusal's is nowhere, or an expression or a statement that the module has, and the whole reply is read back from its number.
use Prim.Native.Nat.{ℕ, ◌/◌, ◌≤◌}
use native.Mathlib.Omega.{arith}
use mathlib.Core.Path.{◌≡◌, refl, ap, subst, ◌∙◌}
use mathlib.Core.List.{List}
use Rattle.field.specs.Limits.{max_visits}
use Rattle.module.specs.Module.{Module}
use Rattle.module.specs.File.{Answer, accepted, refused, read_module}
use Rattle.reading.proofs.Numbers.{refusal_number}
use Rattle.valid.proofs.Accepted.{valid}
use Rattle.walk.specs.State.{Place, nowhere}
use Rattle.requests.specs.Serve.{Lent, Reply, visited, refused_at, serve_read, on_module, serve, reply_word, reply_of_word}
use Rattle.requests.proofs.Falls.{InModule}
use Rattle.requests.proofs.Numbers.{Numbered, refusal_of, word_refusal, read_numbered}
use Rattle.requests.proofs.Words.{in_narrow, NarrowReply, reply_back, ReplyIn, read_in}
use Rattle.boundary.specs.Requests.{lent, Requests}

module _ (bytes asked : List ℕ) (buffers : Lent) where
  pub serve-numbered : Numbered (serve bytes asked buffers).0
  unfolding serve on_module
  serve-numbered = go (read_module bytes) refl
    where
      go : (a : Answer) → read_module bytes ≡ a → Numbered (on_module a asked buffers).0
      go (refused n) e = let z = refusal_number bytes n e in (z.0, omega (arith, z.1))
      go (accepted m) e = read_numbered m buffers asked

  pub refused_number : {n : ℕ} {at : Place} → (serve bytes asked buffers).0 ≡ refused_at n at → (1 ≤ n) × (n ≤ 20)
  refused_number e = subst Numbered e serve-numbered

  pub visited-number : {n : ℕ} → (serve bytes asked buffers).0 ≡ visited n → n ≤ max_visits
  visited-number e = subst Numbered e serve-numbered

  -- where a refusal falls: nowhere, where the file is refused, and else nowhere or in its module
  abbrev pub PlaceIn : Answer → Place → Type 0
  PlaceIn (refused k) at = at ≡ nowhere
  PlaceIn (accepted m) at = InModule m at

  pub refused_place : {n : ℕ} {at : Place} → (serve bytes asked buffers).0 ≡ refused_at n at → PlaceIn (read_module bytes) at
  unfolding serve on_module
  refused_place {n} {at} e = go (read_module bytes) refl e
    where
      go : (a : Answer) → read_module bytes ≡ a → (on_module a asked buffers).0 ≡ refused_at n at → PlaceIn a at
      go (refused k) is h = cc
      go (accepted m) is h = subst (ReplyIn m) h (read_in m (valid bytes m is) buffers asked)

  serve-narrow : NarrowReply (serve bytes asked buffers).0
  unfolding serve on_module
  serve-narrow = go (read_module bytes) refl
    where
      narrow : (m : Module) → read_module bytes ≡ accepted m → (r : Reply) → ReplyIn m r → NarrowReply r
      narrow m is (visited n) h = tt
      narrow m is (refused_at n at) h = in_narrow m (valid bytes m is) at h

      go : (a : Answer) → read_module bytes ≡ a → NarrowReply (on_module a asked buffers).0
      go (refused k) is = tt
      go (accepted m) is = narrow m is (serve_read m asked buffers).0 (read_in m (valid bytes m is) buffers asked)

  pub serve-reply : reply_of_word (reply_word (serve bytes asked buffers).0) ≡ (serve bytes asked buffers).0
  serve-reply = reply_back (serve bytes asked buffers).0 serve-numbered serve-narrow

  pub serve-refusal : reply_word (serve bytes asked buffers).0 / 4294967296 ≡ refusal_of (serve bytes asked buffers).0
  serve-refusal = word_refusal (serve bytes asked buffers).0 serve-numbered

-- the same of the number that a caller gets
pub requests_refusal : {bytes asked pruner report answer : List ℕ} {r : ℕ} {pruner-after report-after answer-after : List ℕ} → Requests bytes asked pruner report answer r pruner-after report-after answer-after
    → r / 4294967296 ≡ refusal_of (serve bytes asked (lent pruner report answer)).0
requests_refusal {bytes} {asked} {pruner} {report} {answer} R = ap (λ n. n / 4294967296) R.number ∙ serve-refusal bytes asked (lent pruner report answer)

pub requests_reply : {bytes asked pruner report answer : List ℕ} {r : ℕ} {pruner-after report-after answer-after : List ℕ} → Requests bytes asked pruner report answer r pruner-after report-after answer-after
    → reply_of_word r ≡ (serve bytes asked (lent pruner report answer)).0
requests_reply {bytes} {asked} {pruner} {report} {answer} R = ap reply_of_word R.number ∙ serve-reply bytes asked (lent pruner report answer)
