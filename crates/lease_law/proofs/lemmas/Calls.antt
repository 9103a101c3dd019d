-- A message is taken at the server: a call that grants, one that comes to wait, an answer to a RECALL, and all others.
use Rattle.std.proofs.Common.{◌≡◌, ◌⊎◌, inl, inr, ℕ, ◌+◌, ◌<◌, ◌≤◌, List, [], ◌∷◌, ◌++◌, length, Option, Some, None, Result, Ok, Err, Bool, true, false, refl, sym, ap, ◌∙◌, subst, arith}
use Rattle.std.specs.Prelude.{◌==◌, ◌&&◌, nat_lt, not, cond, filter, find, unwrap_or, if◌then◌else◌}
use Rattle.std.specs.List.{AllByRecursion}
use Rattle.std.proofs.lemmas.Bool.Decides.{nat_tests}
use Rattle.xdr_codec.specs.Handle.{file_of as named_by}
use Rattle.xdr_codec.specs.declared.status.Status.{Status}
use Rattle.xdr_codec.specs.declared.status.Status.TheVariants as status
use Rattle.xdr_codec.specs.declared.answer.Answer.TheVariants.{Done, Failed}
use Rattle.hash_calls.specs.declared.call.Commit.{Commit}
use Rattle.hash_calls.specs.declared.call.CondPiece.{CondPiece}
use Rattle.hash_calls.specs.declared.call.TempPiece.{TempPiece}
use Rattle.hash_calls.specs.declared.message.Lb.{Lb}
use Rattle.hash_calls.specs.declared.message.Lb.TheVariants as lb
use Rattle.nfs3_calls.specs.declared.message.Nfs.{Nfs}
use Rattle.nfs3_calls.specs.declared.message.Nfs.TheVariants as nfs
use Rattle.wire.specs.declared.message.Body.{Body}
use Rattle.wire.specs.declared.message.Body.TheVariants as body
use Rattle.wire.specs.declared.message.Message.{Message}
use Rattle.wire.specs.declared.message.Message.TheVariants as message
use Rattle.wire.specs.declared.message.RpcRefusal.{RpcRefusal}
use Rattle.wire.specs.declared.message.RpcRefusal.TheVariants as refusal
use Rattle.temp_files.specs.Pieces.{size_most}
use Rattle.temp_files.specs.Temps.{Temp, temp_at, room_fault, piece_fault, without_temp, assembled}
use Rattle.lease_rules.specs.Leases.{term_for}
use Rattle.lease_rules.specs.Changes.{asker, asker_of, is_about}
use Rattle.lease_rules.specs.declared.lease.Lease.{Lease}
use Rattle.lease_table.specs.Order.{AreOrdered}
use Rattle.lease_table.proofs.lemmas.Held.{recalled_ordered}
use Rattle.callback_core.specs.BackCalls.{BackCall, call_at, is_at, unasked, answered as used_up, answered_by as used_by}
use Rattle.callback_core.specs.Waits.{waits_on}
use Rattle.tree_nodes.specs.declared.node.Node.{Node as TreeNode}
use Rattle.tree_nodes.specs.declared.node.Body.{Body as NodeBody}
use Rattle.tree_nodes.specs.declared.node.Body.TheVariants.{Directory, File as Plain}
use Rattle.tree_nodes.specs.Nodes.{with_id}
use Rattle.tree_reading.specs.Tree.{Tree}
use Rattle.file_tree.proofs.lemmas.States.{id_is}
use Rattle.tree_calls.specs.declared.asked.Asked.{Asked}
use Rattle.tree_calls.specs.declared.asked.Asked.TheVariants as asked
use Rattle.tree_calls.specs.declared.asked.Outcome.{Outcome}
use Rattle.tree_calls.specs.declared.asked.Outcome.TheVariants.{Answered, Waits}
use Rattle.tree_calls.specs.Waiting.{calls_under, file_of}
use Rattle.chunk_calls.specs.Files.{File}
use Rattle.chunk_calls.specs.Answers.{Node, directory, file as a_file, node_with, node_found, node_named, node_of}
use Rattle.chunk_calls.specs.Writing.{cond_fault, bytes_known}
use Rattle.chunk_index.specs.Index.{key_of, place_of}
use Rattle.server_core.specs.declared.change.Wanted.TheVariants as wanted
use Rattle.server_core.specs.declared.event.Sent.{Sent}
use Rattle.server_core.specs.declared.event.ServerStep.{ServerStep}
use Rattle.server_core.specs.Closing.{answers, has_waiting, is_full, makes, makes_unless, writes, writes_unless, names, names_unless, names_bytes, looked_up, takes_commit, takes_commit_on, commits_whole}
use Rattle.server_core.specs.Leasing.{Leasing, with_granted, with_granted_on, term_of, given_up, heard}
use Rattle.server_core.specs.Recalling.{file_in, term_on, grants_on, comes}
use Rattle.server_core.specs.State.{State, FileChange, change_of, held, asked_kind, stands}
use Rattle.server_core.specs.Step.{says, tells_lease, tells_hashes, called_under, asks, asks_tree, is_recalled, hears, got_under}
use Rattle.server_core.specs.Steps.{sends, to}
use Rattle.server_law.specs.Facts.{IsGiven}
use Rattle.server_law.proofs.lemmas.TreeCalls.{calls_keep_under}
use Rattle.lease_law.specs.Claims.{Claim, Way, version_at, limit_of, is_own, stored_by, answered_by, called_by, IsAmong, IsGuarded, IsSafe}
use Rattle.lease_law.specs.Orderly.{IsFit, IsOrderly, IsUpTo, AreAnswered, AreDrawn, AreNumbered, sent_on, behind_with}
use Rattle.lease_law.proofs.KeptFiles.{AllStay, calls_stay, version_stays}
use Rattle.lease_law.proofs.lemmas.LeasesAt.{with_granted_ordered, guarded_granted, guarded_more, guarded_given_up}
use Rattle.lease_law.proofs.lemmas.Claiming.{safe_map, all_among, Keeps, behind_none, numbered_as, quiet_keeps, comes_keeps}

-- ---- which file a handle names

named_node : (n : TreeNode) (b : NodeBody) (f : File) → ◌≡◌ {A = Result Node Status} (Ok (node_with n b)) (Ok (a_file f)) → f.id ≡ n.id
named_node n Directory f e = absurd cc
named_node n (Plain c) f e = ap (λ (r : Result Node Status). id_in r) (sym e)
  where
    id_in : Result Node Status → ℕ
    id_in (Ok (a_file g)) = g.id
    id_in (Ok directory) = n.id
    id_in (Err s) = n.id

pub named_file : (t : Tree) (handle : List ℕ) (f : File) → node_of t handle ≡ Ok (a_file f) → named_by handle ≡ Some f.id
named_file t handle f e = by (named_by handle) e
  where
    found : (id : ℕ) (o : Option TreeNode) → with_id t.nodes id ≡ o → node_found o ≡ Ok (a_file f) → Some id ≡ Some f.id
    found id None at e = absurd cc
    found id (Some n) at e = ap (λ (i : ℕ). Some i) (sym (id_is t.nodes id n at) ∙ sym (named_node n n.body f e))

    by : (o : Option ℕ) → node_named t o ≡ Ok (a_file f) → o ≡ Some f.id
    by None e = absurd cc
    by (Some id) e = found id (with_id t.nodes id) refl e

-- ---- what is granted

pub term_full : (b : Bool) (term : ℕ) → (term_for b term == 0) ≡ false → term_for b term ≡ term
term_full true term e = absurd cc
term_full false term e = refl

-- ---- a change that comes

-- no lease but a COMMITTMP's own session's is passed over
asked_others : (n xid session f : ℕ) (a : Asked) → 0 < session → is_own session f (change_of n xid (file_of a) (wanted.Asked a)) ≡ false
asked_others n xid session f (asked.Remove r) some = nobody session (r.file == f) some
  where
    nobody : (s : ℕ) (b : Bool) → 0 < s → ((0 == s) && b) ≡ false
    nobody s b some = grind (arith, nat_tests, some)
asked_others n xid session f (asked.Rename r) some = nobody session (r.file == f) some
  where
    nobody : (s : ℕ) (b : Bool) → 0 < s → ((0 == s) && b) ≡ false
    nobody s b some = grind (arith, nat_tests, some)

asked_fits : (n xid : ℕ) (a : Asked) → IsFit (change_of n xid (file_of a) (wanted.Asked a))
asked_fits n xid a = record { kind = refl; file = refl }

content_fits : (n xid id : ℕ) (content : List ℕ) → IsFit (change_of n xid id (wanted.Content content))
content_fits n xid id content = record { kind = refl; file = tt }

-- ---- an xid is used up

used_session : (n xid : ℕ) (c : BackCall) → (used_by n xid c).session ≡ c.session
used_session n xid c = by (is_at n c)
  where
    by : (b : Bool) → (let d : BackCall = if b then record c { waits = filter (λ p. not (p.xid == xid)) c.waits } else c in d.session) ≡ c.session
    by true = refl
    by false = refl

used_each : (n xid : ℕ) (c : BackCall) → (used_by n xid c).last ≡ c.last
used_each n xid c = by (is_at n c)
  where
    by : (b : Bool) → (let d : BackCall = if b then record c { waits = filter (λ p. not (p.xid == xid)) c.waits } else c in d.last) ≡ c.last
    by true = refl
    by false = refl

-- and the last that was drawn is the same
used_last : (calls : List BackCall) (n xid s : ℕ) → (call_at (used_up calls n xid) s).last ≡ (call_at calls s).last
used_last [] n xid s = refl
used_last (d ∷ ds) n xid s =
    ap (λ (b : Bool). (unwrap_or (cond b (Some (used_by n xid d)) (find (is_at s) (used_up ds n xid))) (unasked s)).last) (ap (λ (k : ℕ). k == s) (used_session n xid d)) ∙ by (is_at s d) (used_last ds n xid s)
  where
    by : (b : Bool) → (call_at (used_up ds n xid) s).last ≡ (call_at ds s).last → (unwrap_or (cond b (Some (used_by n xid d)) (find (is_at s) (used_up ds n xid))) (unasked s)).last ≡ (unwrap_or (cond b (Some d) (find (is_at s) ds)) (unasked s)).last
    by true later = used_each n xid d
    by false later = later

pub drawn_alike : (calls more : List BackCall) (s : ℕ) (ups downs : List Message) → (call_at more s).last ≡ (call_at calls s).last → AreDrawn calls s ups downs → AreDrawn more s ups downs
drawn_alike calls more s ups downs e h = record {
  answers = subst (λ (last : ℕ). AllByRecursion (λ m. IsUpTo last (answered_by m)) ups) (sym e) h.answers;
  calls = subst (λ (last : ℕ). AllByRecursion (λ m. IsUpTo last (called_by m)) downs) (sym e) h.calls;
}

-- ---- a message is taken

-- what is known before, at the moment of its reading
pub record IsReady (s : State) (clock : ℕ) (c : Claim) (way : Way) : Type 0 where
  pub orderly : IsOrderly s clock
  pub base : c.base ≤ s.leasing.moment
  pub answered : stands s c.session ≡ true → AreAnswered s.leasing.calls c.session way.ups
  pub some : 0 < c.session

module _ (clock : ℕ) (c : Claim) (way : Way) (behind downs : List Message) where
  abbrev pub Stands : State → State × ServerStep → Type 0
  Stands s p = Keeps s clock c way behind downs p

  module _ (s : State) (ready : IsReady s clock c way) where
    -- where nothing of it changes
    told_keeps : (t : State) (n xid : ℕ) (b : Body) → t.leasing ≡ s.leasing → t.tree ≡ s.tree → t.waiting ≡ s.waiting → t.sessions ≡ s.sessions → Stands s (t, to n (message.Answer xid b))
    told_keeps t n xid b g u w k = quiet_keeps s clock c way behind downs ready.orderly t n (message.Answer xid b) (to n (message.Answer xid b)) g u w k refl refl

    refused_keeps : (n xid : ℕ) (why : RpcRefusal) → Stands s (s, to n (message.Refuse xid why))
    refused_keeps n xid why = quiet_keeps s clock c way behind downs ready.orderly s n (message.Refuse xid why) (to n (message.Refuse xid why)) refl refl refl refl refl refl

    -- ---- GETLEASE and GETHASH

    granted_guards : (n : ℕ) (file : Option ℕ) → IsGuarded s.leasing.leases s.waiting c.session c.file (limit_of s.leasing c) way behind
        → (limit_of s.leasing c ≤ clock) ⊎ IsGuarded (with_granted_on s.leasing.leases s.leasing.moment n file (term_on s file)) s.waiting c.session c.file (limit_of s.leasing c) way behind
    granted_guards n None g = inr g
    granted_guards n (Some id) g =
        by (guarded_granted s.waiting c.session c.file (limit_of s.leasing c) way behind s.leasing.leases s.leasing.moment n id (term_on s (Some id)) ready.orderly.ordered long g)
      where
        long : (term_on s (Some id) == 0) ≡ false → n ≡ c.session → id ≡ c.file → limit_of s.leasing c ≤ s.leasing.moment + term_on s (Some id)
        long e a b = let full = term_full (waits_on s.waiting id) s.leasing.term e in let le = ready.base in omega (arith, full, le)

        by : (limit_of s.leasing c ≤ s.leasing.moment) ⊎ IsGuarded (with_granted_on s.leasing.leases s.leasing.moment n (Some id) (term_on s (Some id))) s.waiting c.session c.file (limit_of s.leasing c) way behind
            → (limit_of s.leasing c ≤ clock) ⊎ IsGuarded (with_granted_on s.leasing.leases s.leasing.moment n (Some id) (term_on s (Some id))) s.waiting c.session c.file (limit_of s.leasing c) way behind
        by (inl over) = let le = ready.orderly.early in inl (omega (arith, over, le))
        by (inr h) = inr h

    granted_ordered : (n : ℕ) (file : Option ℕ) → AreOrdered (with_granted_on s.leasing.leases s.leasing.moment n file (term_on s file))
    granted_ordered n None = ready.orderly.ordered
    granted_ordered n (Some id) = with_granted_ordered s.leasing.leases s.leasing.moment n id (term_on s (Some id)) ready.orderly.ordered

    -- whatever becomes of the index
    grants_keep : (n xid : ℕ) (file : Option ℕ) (t : State) (b : Body) → t.leasing ≡ (grants_on s n file).leasing → t.tree ≡ s.tree → t.waiting ≡ s.waiting → t.sessions ≡ s.sessions → Stands s (t, to n (message.Answer xid b))
    grants_keep n xid file t b leasing tree waiting sessions = record {
      orderly = h.orderly;
      safe = λ q. h.safe (safe_map s.leasing (grants_on s n file).leasing s.tree s.tree s.waiting s.waiting clock clock c way way behind behind refl refl (omega arith) (λ v. v) (granted_guards n file) q);
      numbered = λ q. h.numbered (numbered_as s (grants_on s n file) c.session way.ups downs refl refl q);
    }
      where
        h : Keeps (grants_on s n file) clock c way behind downs (t, to n (message.Answer xid b))
        h = quiet_keeps (grants_on s n file) clock c way behind downs (record { early = ready.orderly.early; ordered = granted_ordered n file; changes = ready.orderly.changes; given = ready.orderly.given })
            t n (message.Answer xid b) (to n (message.Answer xid b)) leasing tree waiting sessions refl refl

    -- ---- what a close sends before its COMMITTMP

    makes_keep : (n xid fd : ℕ) (o : Result Node Status) → Stands s (makes s n xid fd o)
    makes_keep n xid fd (Err e) = told_keeps s n xid _ refl refl refl refl
    makes_keep n xid fd (Ok directory) = told_keeps s n xid _ refl refl refl refl
    makes_keep n xid fd (Ok (a_file f)) = by (room_fault s.temps n fd)
      where
        by : (o : Option Status) → Stands s (makes_unless s n xid fd f.id o)
        by (Some e) = told_keeps s n xid _ refl refl refl refl
        by None = told_keeps (makes_unless s n xid fd f.id None).0 n xid _ refl refl refl refl

    writes_keep : (n xid : ℕ) (a : TempPiece) (t : Option Temp) (o : Option Status) → Stands s (writes_unless s n xid a t o)
    writes_keep n xid a (Some t) None = told_keeps (writes_unless s n xid a (Some t) None).0 n xid _ refl refl refl refl
    writes_keep n xid a (Some t) (Some e) = told_keeps s n xid _ refl refl refl refl
    writes_keep n xid a None o = told_keeps s n xid _ refl refl refl refl

    bytes_keep : (n xid : ℕ) (a : CondPiece) (t : Option Temp) (o : Option (List ℕ)) → Stands s (names_bytes (looked_up s a) n xid a t o)
    bytes_keep n xid a (Some t) (Some bytes) = told_keeps (names_bytes (looked_up s a) n xid a (Some t) (Some bytes)).0 n xid _ refl refl refl refl
    bytes_keep n xid a (Some t) None = told_keeps (looked_up s a) n xid _ refl refl refl refl
    bytes_keep n xid a None o = told_keeps (looked_up s a) n xid _ refl refl refl refl

    names_keep : (n xid : ℕ) (a : CondPiece) (t : Option Temp) (o : Option Status) → Stands s (names_unless s n xid a t o)
    names_keep n xid a t (Some e) = told_keeps s n xid _ refl refl refl refl
    names_keep n xid a t None = bytes_keep n xid a t (bytes_known s.tree a (place_of s.index.pairs (key_of a.digest)))

    -- ---- COMMITTMP

    -- its own session's claim on the file is none, since the call was on its way
    whole_keep : (n xid id : ℕ) → (n ≡ c.session → id ≡ c.file → IsGuarded s.leasing.leases s.waiting c.session c.file (limit_of s.leasing c) way behind → ⊥) → (o : Option (List ℕ)) → Stands s (commits_whole s n xid id o)
    whole_keep n xid id never None = told_keeps s n xid _ refl refl refl refl
    whole_keep n xid id never (Some content) = by (has_waiting s.waiting n) (is_full s (length content))
      where
        other : IsGuarded s.leasing.leases s.waiting c.session c.file (limit_of s.leasing c) way behind → is_own c.session c.file (change_of n xid id (wanted.Content content)) ≡ false
        other g = split (n == c.session) (id == c.file) refl refl
          where
            split : (a b : Bool) → (n == c.session) ≡ a → (id == c.file) ≡ b → (a && b) ≡ false
            split true true p q = absurd (never (grind (arith, nat_tests, p)) (grind (arith, nat_tests, q)) g)
            split true false p q = refl
            split false b p q = refl

        by : (a b : Bool) → Stands s (if a then answers s n xid (lb.CommitTmpAnswer (Failed status.Jukebox tt)) else if b then answers s n xid (lb.CommitTmpAnswer (Failed status.NoSpc tt)) else comes s (change_of n xid id (wanted.Content content)))
        by true b = told_keeps s n xid _ refl refl refl refl
        by false true = told_keeps s n xid _ refl refl refl refl
        by false false = comes_keeps s clock c way behind downs ready.orderly ready.answered (change_of n xid id (wanted.Content content)) (content_fits n xid id content) other

    -- a step is the same to a claim where the state before had other temporary files
    commits_to_keep : (n xid size : ℕ) (t : Temp) (o : Result Node Status) → ((f : File) → o ≡ Ok (a_file f) → n ≡ c.session → f.id ≡ c.file → IsGuarded s.leasing.leases s.waiting c.session c.file (limit_of s.leasing c) way behind → ⊥)
        → Stands s (takes_commit_on s n xid size t o)
    commits_to_keep n xid size t (Err e) never = told_keeps s n xid _ refl refl refl refl
    commits_to_keep n xid size t (Ok directory) never = told_keeps s n xid _ refl refl refl refl
    commits_to_keep n xid size t (Ok (a_file f)) never = by (nat_lt size_most size)
      where
        by : (b : Bool) → Stands s (if b then answers s n xid (lb.CommitTmpAnswer (Failed status.FBig tt)) else commits_whole s n xid f.id (assembled t size))
        by true = told_keeps s n xid _ refl refl refl refl
        by false = whole_keep n xid f.id (never f refl) (assembled t size)

    -- ---- an answer to what was asked for

    given_keep : (n xid : ℕ) (done : Bool) → (done ≡ true → n ≡ c.session → (g : IsGuarded s.leasing.leases s.waiting c.session c.file (limit_of s.leasing c) way behind) → g.lease.recall ≡ Some xid → ⊥) → Stands s (hears s n xid done)
    given_keep n xid done never = record {
      orderly = record { early = ready.orderly.early; ordered = ordered done; changes = ready.orderly.changes; given = ready.orderly.given };
      safe = λ q.
          safe_map s.leasing (hears s n xid done).0.leasing s.tree s.tree s.waiting s.waiting clock clock c way way behind (behind_with way behind []) refl refl (omega arith) (λ v. v)
          (λ g. inr (guarded_more s.waiting c.session c.file (limit_of s.leasing c) way behind (given_up s.leasing.leases n xid done) [] (guarded done never g))) q;
      numbered = λ q. subst (AreNumbered (hears s n xid done).0 c.session way.ups) (sym (behind_none way downs)) (numbered q);
    }
      where
        ordered : (b : Bool) → AreOrdered (given_up s.leasing.leases n xid b)
        ordered true = recalled_ordered s.leasing.leases ready.orderly.ordered n xid
        ordered false = ready.orderly.ordered

        guarded : (b : Bool) → (b ≡ true → n ≡ c.session → (g : IsGuarded s.leasing.leases s.waiting c.session c.file (limit_of s.leasing c) way behind) → g.lease.recall ≡ Some xid → ⊥) → IsGuarded s.leasing.leases s.waiting c.session c.file (limit_of s.leasing c) way behind
            → IsGuarded (given_up s.leasing.leases n xid b) s.waiting c.session c.file (limit_of s.leasing c) way behind
        guarded true none g = guarded_given_up s.waiting c.session c.file (limit_of s.leasing c) way behind s.leasing.leases n xid ready.orderly.ordered g (λ a e. none refl a g e)
        guarded false none g = g

        numbered : AreNumbered s c.session way.ups downs → AreNumbered (hears s n xid done).0 c.session way.ups downs
        numbered q = record { drawn = λ e. drawn_alike s.leasing.calls (used_up s.leasing.calls n xid) c.session way.ups downs (used_last s.leasing.calls n xid c.session) (q.drawn e); apart = q.apart }

  -- ---- the tree alone is another

  tree_keeps : (s : State) (u : Tree) → IsReady s clock c way → IsGiven u → AllStay s.tree u → (p : State × ServerStep) → (IsReady (record s { tree = u }) clock c way → Stands (record s { tree = u }) p) → Stands s p
  tree_keeps s u ready given stay p then_ =
      let o = ready.orderly in
      let h = then_ (record { orderly = record { early = o.early; ordered = o.ordered; changes = o.changes; given = given }; base = ready.base; answered = ready.answered; some = ready.some }) in
      record {
        orderly = h.orderly;
        safe = λ q. h.safe (safe_map s.leasing s.leasing s.tree u s.waiting s.waiting clock clock c way way behind behind refl refl (omega arith) (version_stays s.tree u c.file c.version (stay c.file)) (λ g. inr g) q);
        numbered = λ q. h.numbered (numbered_as s (record s { tree = u }) c.session way.ups downs refl refl q);
      }

  asks_keep : (s : State) → IsReady s clock c way → (n xid : ℕ) (o : Option Outcome) → Stands s (asks s n xid o)
  asks_keep s ready n xid None = refused_keeps s ready n xid refusal.ProcUnavail
  asks_keep s ready n xid (Some (Answered d)) = quiet_keeps s clock c way behind downs ready.orderly (asks s n xid (Some (Answered d))).0 n (message.Answer xid (body.Nfs d.answer)) (asks s n xid (Some (Answered d))).1 refl refl refl refl refl refl
  asks_keep s ready n xid (Some (Waits a)) = comes_keeps s clock c way behind downs ready.orderly ready.answered (change_of n xid (file_of a) (wanted.Asked a)) (asked_fits n xid a) (λ g. asked_others n xid c.session c.file a ready.some)

  -- ---- any message

  module _ (s : State) (ready : IsReady s clock c way) (fault : Bool) where
    asks_tree_keep : (n xid : ℕ) (m : Nfs) → Stands s (asks_tree s n xid (calls_under s.tree (held s.waiting) (has_waiting s.waiting n) fault m))
    asks_tree_keep n xid m =
        let p : Tree × Option Outcome = calls_under s.tree (held s.waiting) (has_waiting s.waiting n) fault m in
        tree_keeps s p.0 ready (calls_keep_under s.tree (held s.waiting) fault (has_waiting s.waiting n) m ready.orderly.given).0 (calls_stay s.tree (held s.waiting) fault ready.orderly.given (has_waiting s.waiting n) m)
        (asks_tree s n xid p) (λ r. asks_keep (record s { tree = p.0 }) r n xid p.1)

    commits_keep : (n xid : ℕ) (a : Commit) → (n ≡ c.session → IsAmong (message.Call xid (body.Lb (lb.CommitTmp a))) way.ups) → (t : Option Temp) → Stands s (takes_commit s n xid a t)
    commits_keep n xid a own None = told_keeps s ready s n xid _ refl refl refl refl
    commits_keep n xid a own (Some t) = same (commits_to_keep u ready_then n xid a.size t (node_of s.tree a.handle) never)
      where
        u : State
        u = record s { temps = without_temp s.temps n a.fd }

        ready_then : IsReady u clock c way
        ready_then = record { orderly = record { early = ready.orderly.early; ordered = ready.orderly.ordered; changes = ready.orderly.changes; given = ready.orderly.given }; base = ready.base; answered = ready.answered; some = ready.some }

        never : (f : File) → node_of s.tree a.handle ≡ Ok (a_file f) → n ≡ c.session → f.id ≡ c.file → IsGuarded s.leasing.leases s.waiting c.session c.file (limit_of s.leasing c) way behind → ⊥
        never f e mine file g = (all_among _ (message.Call xid (body.Lb (lb.CommitTmp a))) way.ups g.spared (own mine)).1 (named_file s.tree a.handle f e ∙ ap (λ (i : ℕ). Some i) file)

        same : Stands u (takes_commit_on u n xid a.size t (node_of s.tree a.handle)) → Stands s (takes_commit_on u n xid a.size t (node_of s.tree a.handle))
        same h = record { orderly = h.orderly; safe = h.safe; numbered = λ q. h.numbered (numbered_as s u c.session way.ups downs refl refl q) }

    called_keep : (n xid : ℕ) (b : Body) → (n ≡ c.session → IsAmong (message.Call xid b) way.ups) → Stands s (called_under s fault n xid b)
    called_keep n xid (body.Lb (lb.Null z)) own = told_keeps s ready s n xid _ refl refl refl refl
    called_keep n xid (body.Lb (lb.GetLease z)) own = grants_keep s ready n xid (file_in (node_of s.tree z.handle)) (tells_lease s n xid (node_of s.tree z.handle)).0 _ refl refl refl refl
    called_keep n xid (body.Lb (lb.GetHash r)) own = grants_keep s ready n xid (file_in (node_of s.tree r.handle)) (tells_hashes s n xid r (node_of s.tree r.handle)).0 _ refl refl refl refl
    called_keep n xid (body.Lb (lb.MkTmpFile a)) own = makes_keep s ready n xid a.fd (node_of s.tree a.handle)
    called_keep n xid (body.Lb (lb.TmpWrite a)) own = writes_keep s ready n xid a (temp_at s.temps n a.fd) (piece_fault (temp_at s.temps n a.fd) a.offset (length a.bytes))
    called_keep n xid (body.Lb (lb.CondWrite a)) own = names_keep s ready n xid a (temp_at s.temps n a.fd) (cond_fault a (temp_at s.temps n a.fd))
    called_keep n xid (body.Lb (lb.CommitTmp a)) own = commits_keep n xid a own (temp_at s.temps n a.fd)
    called_keep n xid (body.Lb m) own = refused_keeps s ready n xid refusal.ProcUnavail
    called_keep n xid (body.Nfs nfs.Null) own = told_keeps s ready s n xid _ refl refl refl refl
    called_keep n xid (body.Nfs (nfs.Read r)) own = told_keeps s ready s n xid _ refl refl refl refl
    called_keep n xid (body.Nfs m) own = asks_tree_keep n xid m
    called_keep n xid (body.Back m) own = refused_keeps s ready n xid refusal.ProcUnavail

    pub got_keeps : (n : ℕ) (m : Message) → (n ≡ c.session → IsAmong m way.ups) → Stands s (got_under s fault n m)
    got_keeps n (message.Call xid b) own = called_keep n xid b own
    got_keeps n (message.Unfit xid why) own = refused_keeps s ready n xid why
    got_keeps n (message.Answer xid b) own = given_keep s ready n xid (is_recalled b) (λ done mine g e. (all_among _ (message.Answer xid b) way.ups g.spared (own mine)).0 xid refl e)
    got_keeps n (message.Refuse xid why) own = given_keep s ready n xid false (λ done. no done)
      where
        no : {A : Type 0} → false ≡ true → A
        no e = absurd cc
