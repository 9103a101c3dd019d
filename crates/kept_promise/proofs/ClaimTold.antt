-- What a GETLEASE or a GETHASH is told of a lease is promised to the client that waits for it.
use Rattle.std.proofs.Common.{◌≡◌, ℕ, ◌<◌, ◌≤◌, List, [], Option, Some, None, Result, Ok, Err, Bool, true, false, refl, sym, ap, ◌∙◌, subst, arith}
use Rattle.std.specs.Prelude.{◌==◌, max, not}
use Rattle.std.specs.List.{AllByRecursion}
use Rattle.std.proofs.lemmas.Bool.Decides.{nat_tests}
use Rattle.clock_rule.specs.declared.rule.Note.{Note as Noted}
use Rattle.xdr_codec.specs.Handle.{file_of as named_by}
use Rattle.xdr_codec.specs.declared.answer.Answer.{Answer}
use Rattle.xdr_codec.specs.declared.answer.Answer.TheVariants.{Done, Failed}
use Rattle.xdr_codec.specs.declared.status.Status.{Status}
use Rattle.hash_calls.specs.declared.call.HashRange.{HashRange}
use Rattle.hash_calls.specs.declared.call.Committed.{Committed}
use Rattle.hash_calls.specs.declared.message.Lb.TheVariants as lb
use Rattle.wire.specs.declared.message.Body.TheVariants as body
use Rattle.callback_core.specs.Waits.{waits_on, without}
use Rattle.chunk_calls.specs.Files.{File}
use Rattle.chunk_calls.specs.Answers.{Node, directory, file as a_file, node_of, lease_answer, hash_answer}
use Rattle.client_state.specs.declared.noting.Granted.{Granted}
use Rattle.server_core.specs.declared.change.Wanted.TheVariants as wanted
use Rattle.server_core.specs.State as server
use Rattle.server_core.specs.State.{FileChange, held}
use Rattle.server_core.specs.Closing.{at, makes_change_under}
use Rattle.server_core.specs.Recalling.{file_in, term_at, term_on, grants_on}
use Rattle.tree_calls.specs.Waiting.{gives_content_under}
use Rattle.lease_law.specs.Claims.{Way, IsAmong, IsPromise, HasClaim, noted_at, stored_by}
use Rattle.lease_law.specs.Orderly.{IsOrderly}
use Rattle.lease_law.proofs.lemmas.Calls.{named_file, term_full}
use Rattle.lease_law.proofs.lemmas.Granted.{told_claims, committed_claims, committed_version}
use Rattle.lease_law.proofs.lemmas.Settles.{all_left}
use Rattle.lease_law.specs.Orderly.{IsFit}
use Rattle.kept_promise.proofs.Lists.{some_is}
use Rattle.kept_promise.proofs.ClaimGrants.{grants_in}

granted_is : (g h : Granted) → ◌≡◌ {A = Option Granted} (Some g) (Some h) → g ≡ h
granted_is g h e = cc

no_grant : {A : Type 0} (g : Granted) → ◌≡◌ {A = Option Granted} None (Some g) → A
no_grant g e = absurd cc

abbrev granted_so : (version term : ℕ) → Granted
granted_so version term = record { version = version; term = term }

pub at_orderly : (s : server.State) (clock at_ now : ℕ) → clock ≤ at_ → at_ ≤ now → IsOrderly s clock → IsOrderly (at s at_) now
at_orderly s clock at_ now le until o = let e = o.early in record { early = least s.leasing.moment at_ now (omega (arith, e, le, until)) until; ordered = o.ordered; changes = o.changes; given = o.given }
  where
    least : (a b k : ℕ) → a ≤ k → b ≤ k → max a b ≤ k
    least a b k p q = omega (arith, p, q)

above : (a b k : ℕ) → k ≤ b → k ≤ max a b
above a b k h = omega (arith, h)

positive : (drift term : ℕ) → drift < term → (term == 0) ≡ false
positive drift term lt = by (term == 0) refl
  where
    by : (b : Bool) → (term == 0) ≡ b → b ≡ false
    by true e = let z : term ≡ 0 = grind (arith, nat_tests, e) in absurd (omega (arith, z, lt))
    by false e = refl

module _ (s : server.State) (clock at_ now : ℕ) (drift : ℕ) (noted : List Noted) (i n f base sent : ℕ) (way : Way) (o : IsOrderly s clock) (le : clock ≤ at_) (until : at_ ≤ now) (before : base ≤ clock) (known : IsAmong (noted_at i sent base) noted)
    (free : AllByRecursion (λ m. stored_by m ≡ Some f → ⊥) way.ups) where
  -- of a file that the handle names
  file_promised : (handle : List ℕ) (fl : File) → node_of s.tree handle ≡ Ok (a_file fl) → named_by handle ≡ Some f → IsPromise (grants_on (at s at_) n (Some fl.id)) now drift noted i n f fl.version (term_on (at s at_) (Some fl.id)) sent way []
  file_promised handle fl named own lt =
      let some = positive drift (term_on (at s at_) (Some fl.id)) lt in
      let same : f ≡ fl.id = some_is f fl.id (sym own ∙ named_file s.tree handle fl named) in
      let full : term_on (at s at_) (Some fl.id) ≡ s.leasing.term = term_full (waits_on s.waiting fl.id) s.leasing.term some in
      let claim = told_claims (at s at_) now n base handle fl way (at_orderly s clock at_ now le until o) named some (above s.leasing.moment at_ base (omega (arith, before, le))) (subst (λ (z : ℕ). AllByRecursion (λ m. stored_by m ≡ Some z → ⊥) way.ups) same free) in
      (full, subst (λ (z : ℕ). HasClaim (grants_on (at s at_) n (Some fl.id)) now noted i n z fl.version sent way []) (sym same) (record { base = base; known = known; claim = claim }))

  -- what a GETLEASE is told
  pub lease_promised : (handle : List ℕ) → named_by handle ≡ Some f → (g : Granted) → grants_in (body.Lb (lb.GetLeaseAnswer (lease_answer (term_on (at s at_) (file_in (node_of s.tree handle))) (node_of s.tree handle)))) ≡ Some g
      → IsPromise (grants_on (at s at_) n (file_in (node_of s.tree handle))) now drift noted i n f g.version g.term sent way []
  lease_promised handle own g e = by (node_of s.tree handle) refl e
    where
      by : (r : Result Node Status) → node_of s.tree handle ≡ r → grants_in (body.Lb (lb.GetLeaseAnswer (lease_answer (term_on (at s at_) (file_in r)) r))) ≡ Some g → IsPromise (grants_on (at s at_) n (file_in r)) now drift noted i n f g.version g.term sent way []
      by (Err x) is e = no_grant g e
      by (Ok directory) is e = no_grant g e
      by (Ok (a_file fl)) is e =
          subst (λ (h : Granted). IsPromise (grants_on (at s at_) n (Some fl.id)) now drift noted i n f h.version h.term sent way []) (granted_is (granted_so fl.version (term_on (at s at_) (Some fl.id))) g e) (file_promised handle fl is own)

  -- and a GETHASH
  pub hash_promised : (r : HashRange) → named_by r.handle ≡ Some f → (g : Granted) → grants_in (body.Lb (lb.GetHashAnswer (hash_answer (term_on (at s at_) (file_in (node_of s.tree r.handle))) (node_of s.tree r.handle) r))) ≡ Some g
      → IsPromise (grants_on (at s at_) n (file_in (node_of s.tree r.handle))) now drift noted i n f g.version g.term sent way []
  hash_promised r own g e = by (node_of s.tree r.handle) refl e
    where
      by : (q : Result Node Status) → node_of s.tree r.handle ≡ q → grants_in (body.Lb (lb.GetHashAnswer (hash_answer (term_on (at s at_) (file_in q)) q r))) ≡ Some g → IsPromise (grants_on (at s at_) n (file_in q)) now drift noted i n f g.version g.term sent way []
      by (Err x) is e = no_grant g e
      by (Ok directory) is e = no_grant g e
      by (Ok (a_file fl)) is e =
          subst (λ (h : Granted). IsPromise (grants_on (at s at_) n (Some fl.id)) now drift noted i n f h.version h.term sent way []) (granted_is (granted_so fl.version (term_on (at s at_) (Some fl.id))) g e) (file_promised r.handle fl is own)

  -- and a COMMITTMP that was made
  pub commit_promised : (d : FileChange) (content : List ℕ) → d.session ≡ n → d.file ≡ f
      → (g : Granted) → grants_in (body.Lb (lb.CommitTmpAnswer (gives_content_under s.tree (held (without s.waiting d.session)) false d.file content (term_at (at (record s { waiting = without s.waiting d.session }) at_) d.file)).1.answer)) ≡ Some g
      → IsPromise (makes_change_under (at (record s { waiting = without s.waiting d.session }) at_) false d (wanted.Content content)).0 now drift noted i n f g.version g.term sent way []
  commit_promised d content mine file g e = λ lt. made (gives_content_under s.tree (held (without s.waiting d.session)) false d.file content (term_at rest d.file)).1.answer refl e lt
    where
      rest : server.State
      rest = at (record s { waiting = without s.waiting d.session }) at_

      done : server.State
      done = (makes_change_under rest false d (wanted.Content content)).0

      rest_orderly : IsOrderly rest now
      rest_orderly = let z = at_orderly s clock at_ now le until o in record { early = z.early; ordered = z.ordered; changes = all_left IsFit (λ c. not (c.session == d.session)) s.waiting o.changes; given = z.given }

      made : (a : Answer Committed Unit) → (gives_content_under s.tree (held (without s.waiting d.session)) false d.file content (term_at rest d.file)).1.answer ≡ a → grants_in (body.Lb (lb.CommitTmpAnswer a)) ≡ Some g → drift < g.term → (g.term ≡ done.leasing.term) × HasClaim done now noted i n f g.version sent way []
      made (Failed x u) is e lt = no_grant g e
      made (Done a) is e lt =
          let same = granted_is (granted_so a.version a.term) g e in
          let lt_ : drift < a.term = subst (λ (h : Granted). drift < h.term) (sym same) lt in
          let some = positive drift a.term lt_ in
          let told = committed_version s.tree (held (without s.waiting d.session)) false d.file content (term_at rest d.file) a is in
          let some_at : (term_at rest d.file == 0) ≡ false = ap (λ (t : ℕ). t == 0) (sym told.1) ∙ some in
          let full : a.term ≡ s.leasing.term = told.1 ∙ term_full (waits_on (without s.waiting d.session) d.file) s.leasing.term some_at in
          let claim = committed_claims rest now false d content base way a rest_orderly is some (above s.leasing.moment at_ base (omega (arith, before, le))) (subst (λ (z : ℕ). AllByRecursion (λ m. stored_by m ≡ Some z → ⊥) way.ups) (sym file) free) in
          subst (λ (h : Granted). (h.term ≡ done.leasing.term) × HasClaim done now noted i n f h.version sent way []) same
          (full, subst (λ (z : ℕ). HasClaim done now noted i z f a.version sent way []) mine (subst (λ (z : ℕ). HasClaim done now noted i d.session z a.version sent way []) file (record { base = base; known = known; claim = claim })))
