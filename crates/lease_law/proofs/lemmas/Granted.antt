-- Where a call is told a lease, what it lets its client note is a claim: GETLEASE, GETHASH, and a COMMITTMP once it's made.
use Rattle.std.proofs.Common.{◌≡◌, ◌⊎◌, inl, inr, ℕ, ◌+◌, ◌<◌, ◌≤◌, List, [], ◌∷◌, length, Option, Some, None, Result, Ok, Err, Bool, true, false, refl, sym, ap, ◌∙◌, subst, arith}
use Rattle.std.specs.Prelude.{◌==◌, ◌&&◌, ◌||◌, if◌then◌else◌}
use Rattle.std.specs.List.{list_any, AllByRecursion}
use Rattle.std.specs.Option.{option_map}
use Rattle.xdr_codec.specs.Handle.{file_of as named_by}
use Rattle.xdr_codec.specs.declared.answer.Answer.{Answer}
use Rattle.xdr_codec.specs.declared.answer.Answer.TheVariants.{Done, Failed}
use Rattle.xdr_codec.specs.declared.status.Status.{Status}
use Rattle.hash_calls.specs.declared.call.Committed.{Committed}
use Rattle.wire.specs.declared.message.Message.{Message}
use Rattle.lease_rules.specs.Changes.{asker, is_about}
use Rattle.lease_rules.specs.Leases.{term_for}
use Rattle.lease_table.specs.Leases.{grant, lease_of, without_ended}
use Rattle.lease_table.specs.Order.{AreOrdered}
use Rattle.lease_table.proofs.lemmas.Held.{at_grant}
use Rattle.callback_core.specs.Waits.{waits_on}
use Rattle.tree_nodes.specs.declared.node.Node.{Node as TreeNode}
use Rattle.tree_nodes.specs.declared.node.Body.{Body as NodeBody}
use Rattle.tree_nodes.specs.declared.node.Body.TheVariants.{Directory, File as Plain}
use Rattle.tree_nodes.specs.Nodes.{with_id}
use Rattle.tree_reading.specs.Tree.{Tree}
use Rattle.tree_reading.specs.Plans.{replace_plan}
use Rattle.tree_reading.specs.declared.call.Changed.{Changed}
use Rattle.tree_reading.specs.declared.call.Reservation.{Reservation}
use Rattle.file_tree.specs.Step.{replace, replace_if}
use Rattle.tree_calls.specs.Waiting.{with_committed, gives_content_under}
use Rattle.chunk_calls.specs.Files.{File, file_at, file_of_body, file_of_node}
use Rattle.chunk_calls.specs.Answers.{Node, directory, file as a_file, node_with, node_found, node_named, node_of}
use Rattle.server_core.specs.Leasing.{Leasing, with_granted}
use Rattle.tree_calls.specs.declared.asked.Committing.{Committing}
use Rattle.server_core.specs.declared.change.Wanted.TheVariants as wanted
use Rattle.server_core.specs.Closing.{leases_done, makes_change_under}
use Rattle.server_core.specs.Recalling.{term_at, term_on, grants_on}
use Rattle.server_core.specs.State.{State, FileChange, held}
use Rattle.lease_law.specs.Orderly.{IsOrderly}
use Rattle.server_law.proofs.lemmas.Asked.{asked_holds}
use Rattle.server_law.proofs.lemmas.Trees.{replaced_own}
use Rattle.server_law.proofs.lemmas.TreeCalls.{replace_in}
use Rattle.lease_law.specs.Claims.{Claim, Way, Spares, version_at, limit_of, is_own, stored_by, answered_by, IsAlone, IsGuarded, IsClaim}
use Rattle.lease_law.proofs.lemmas.LeasesAt.{ended_ordered}
use Rattle.lease_law.proofs.lemmas.Calls.{term_full, named_file}

-- ---- nobody's change waits for the file

weaker : (p q : FileChange → Bool) (ws : List FileChange) → ((w : FileChange) → q w ≡ false → p w ≡ false) → list_any q ws ≡ false → list_any p ws ≡ false
weaker p q [] h none = refl
weaker p q (w ∷ ws) h none = both (p w) (list_any p ws) (h w (first (q w) (list_any q ws) none)) (weaker p q ws h (second (q w) (list_any q ws) none))
  where
    first : (a b : Bool) → (a || b) ≡ false → a ≡ false
    first true b e = absurd cc
    first false b e = refl

    second : (a b : Bool) → (a || b) ≡ false → b ≡ false
    second true b e = absurd cc
    second false b e = e

    both : (a b : Bool) → a ≡ false → b ≡ false → (a || b) ≡ false
    both true b e f = e
    both false b e f = f

none_waits : (ws : List FileChange) (session file term : ℕ) → (term_for (waits_on ws file) term == 0) ≡ false → IsAlone ws session file
none_waits ws session file term some = weaker (is_own session file) (λ w. is_about w file) ws (λ w e. other (asker w == session) (is_about w file) e) (free (waits_on ws file) some)
  where
    free : (b : Bool) → (term_for b term == 0) ≡ false → b ≡ false
    free true e = absurd cc
    free false e = refl

    other : (a b : Bool) → b ≡ false → (a && b) ≡ false
    other true b e = e
    other false b e = refl

-- ---- the lease that is granted guards

unstored : (f : ℕ) (ups : List Message) → AllByRecursion (λ m. stored_by m ≡ Some f → ⊥) ups → AllByRecursion (Spares None f) ups
unstored f [] h = tt
unstored f (m ∷ ms) h = (((λ x e r. none x r), h.0), unstored f ms h.1)
  where
    none : {A : Type 0} (x : ℕ) → ◌≡◌ {A = Option ℕ} None (Some x) → A
    none x e = absurd cc

pub granted_guards : (g : Leasing) (ws : List FileChange) (session file term base : ℕ) (way : Way) → AreOrdered g.leases → (term == 0) ≡ false → base ≤ g.moment → AllByRecursion (λ m. stored_by m ≡ Some file → ⊥) way.ups → IsAlone ws session file
    → IsGuarded (with_granted g.leases g.moment session file term) ws session file (base + term) way []
granted_guards g ws session file term base way ordered some before free alone = by (term == 0) some
  where
    by : (b : Bool) → b ≡ false → IsGuarded (if b then g.leases else grant (without_ended g.leases g.moment) session file (g.moment + term)) ws session file (base + term) way []
    by true e = absurd (no e)
      where
        no : true ≡ false → ⊥
        no e = absurd cc
    by false e = record {
      lease = lease_of session file (g.moment + term);
      there = at_grant (without_ended g.leases g.moment) (ended_ordered g.leases g.moment ordered) session file (g.moment + term);
      lasts = omega (arith, before);
      unread = tt;
      spared = unstored file way.ups free;
      alone = alone;
    }

-- ---- what is told is the file's version

found_file : (n : TreeNode) (b : NodeBody) (f : File) → ◌≡◌ {A = Result Node Status} (Ok (node_with n b)) (Ok (a_file f)) → n.body ≡ b → option_map (λ (g : File). g.version) (file_of_body n b) ≡ Some f.version
found_file n Directory f e is = absurd cc
found_file n (Plain content) f e is = ap (λ (r : Result Node Status). version_in r) e
  where
    version_in : Result Node Status → Option ℕ
    version_in (Ok (a_file g)) = Some g.version
    version_in (Ok directory) = None
    version_in (Err s) = None

pub named_version : (t : Tree) (handle : List ℕ) (f : File) → node_of t handle ≡ Ok (a_file f) → version_at t f.id ≡ Some f.version
named_version t handle f e = by (named_by handle) refl e
  where
    some_is : (a b : ℕ) → ◌≡◌ {A = Option ℕ} (Some a) (Some b) → a ≡ b
    some_is a b e = cc

    found : (o : Option TreeNode) → node_found o ≡ Ok (a_file f) → option_map (λ (g : File). g.version) (file_of_node o) ≡ Some f.version
    found None e = absurd cc
    found (Some n) e = found_file n n.body f e refl

    by : (o : Option ℕ) → named_by handle ≡ o → node_named t o ≡ Ok (a_file f) → version_at t f.id ≡ Some f.version
    by None is e = absurd cc
    by (Some id) is e = let same : id ≡ f.id = some_is id f.id (sym is ∙ named_file t handle f (ap (node_named t) is ∙ e)) in subst (λ (i : ℕ). version_at t i ≡ Some f.version) same (found (with_id t.nodes id) e)

pub committed_version : (t : Tree) (held : Reservation) (fault : Bool) (id : ℕ) (content : List ℕ) (term : ℕ) (a : Committed) → (gives_content_under t held fault id content term).1.answer ≡ Done a → (version_at (gives_content_under t held fault id content term).0 id ≡ Some a.version) × (a.term ≡ term)
committed_version t held fault id content term a = asked_holds (λ q. (with_committed term q).1.answer ≡ Done a → (version_at q.0 id ≡ Some a.version) × (a.term ≡ term)) fault t (replace t held id content) (by (replace_plan t held id (length content)) refl) (λ e. failed e)
  where
    failed : {A : Type 0} {x : Status} → ◌≡◌ {A = Answer Committed Unit} (Failed x tt) (Done a) → A
    failed e = absurd cc

    done_is : (x y : Committed) → ◌≡◌ {A = Answer Committed Unit} (Done x) (Done y) → x ≡ y
    done_is x y e = cc

    by : (r : Result ℕ Status) → replace_plan t held id (length content) ≡ r → (with_committed term (replace_if t id content r)).1.answer ≡ Done a → (version_at (replace_if t id content r).0 id ≡ Some a.version) × (a.term ≡ term)
    by (Err s) e is = failed is
    by (Ok version) e is =
        let g = replace_in t held id (length content) version e in
        let same = done_is (record { version = version; term = term }) a is in
        (ap (option_map (λ (f : File). f.version)) (replaced_own t id version content g.0 g.1) ∙ ap (λ (d : Committed). Some d.version) same, ap (λ (d : Committed). d.term) (sym same))

-- ---- a claim is told

-- by GETLEASE and GETHASH
pub told_claims : (s : State) (clock n base : ℕ) (handle : List ℕ) (f : File) (way : Way) → IsOrderly s clock → node_of s.tree handle ≡ Ok (a_file f) → (term_on s (Some f.id) == 0) ≡ false → base ≤ s.leasing.moment
    → AllByRecursion (λ m. stored_by m ≡ Some f.id → ⊥) way.ups → IsClaim (grants_on s n (Some f.id)) clock (record { session = n; file = f.id; version = f.version; base = base }) way []
told_claims s clock n base handle f way o named some before free =
    let early = o.early in
    let full : term_on s (Some f.id) ≡ s.leasing.term = term_full (waits_on s.waiting f.id) s.leasing.term some in (
      omega (arith, before, early),
      inr (
        named_version s.tree handle f named,
        inr
            (subst (λ (t : ℕ). IsGuarded (with_granted s.leasing.leases s.leasing.moment n f.id (term_on s (Some f.id))) s.waiting n f.id (base + t) way []) full
            (granted_guards s.leasing s.waiting n f.id (term_on s (Some f.id)) base way o.ordered some before free (none_waits s.waiting n f.id s.leasing.term some))),
      ),
    )

-- and by a COMMITTMP that was made
pub committed_claims : (s : State) (clock : ℕ) (fault : Bool) (d : FileChange) (content : List ℕ) (base : ℕ) (way : Way) (a : Committed) → IsOrderly s clock
    → (gives_content_under s.tree (held s.waiting) fault d.file content (term_at s d.file)).1.answer ≡ Done a → (a.term == 0) ≡ false → base ≤ s.leasing.moment
    → AllByRecursion (λ m. stored_by m ≡ Some d.file → ⊥) way.ups → IsClaim (makes_change_under s fault d (wanted.Content content)).0 clock (record { session = d.session; file = d.file; version = a.version; base = base }) way []
committed_claims s clock fault d content base way a o is some before free =
    let p : Tree × Committing = gives_content_under s.tree (held s.waiting) fault d.file content (term_at s d.file) in
    let told = committed_version s.tree (held s.waiting) fault d.file content (term_at s d.file) a is in
    let early = o.early in
    let some_at : (term_at s d.file == 0) ≡ false = ap (λ (t : ℕ). t == 0) (sym told.1) ∙ some in
    let full : a.term ≡ s.leasing.term = told.1 ∙ term_full (waits_on s.waiting d.file) s.leasing.term some_at in
    let guard = subst (λ (t : ℕ). IsGuarded (with_granted s.leasing.leases s.leasing.moment d.session d.file a.term) s.waiting d.session d.file (base + t) way []) full
    (granted_guards s.leasing s.waiting d.session d.file a.term base way o.ordered some before free (none_waits s.waiting d.session d.file s.leasing.term some_at)) in (
      omega (arith, before, early),
      inr (
        told.0,
        inr
            (subst (λ (x : Answer Committed Unit). IsGuarded (leases_done s.leasing.leases s.leasing.moment d.session d.file x) s.waiting d.session d.file (base + s.leasing.term) way []) (sym is) guard),
      ),
    )
