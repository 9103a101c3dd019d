-- RECALLs and their answers fit records, and are quiet steps: the server changes its leases alone, and a client its clock and a note.
use Rattle.std.proofs.Common.{lit<, ◌≡◌, ℕ, zero, suc, ◌+◌, ◌-◌, ◌<◌, List, [], ◌∷◌, ◌++◌, Option, Some, None, Result, Ok, Err, Bool, true, false, refl, sym, ap, ◌∙◌, subst, arith, append-nil, length, replicate, ◌⊎◌, inl, inr, ◌==◌, if◌then◌else◌}
use Rattle.std.proofs.lemmas.List.{drop_all}
use Rattle.xdr_codec.specs.declared.fault.Fault.{Fault}
use Rattle.xdr_codec.specs.Format.{Input, whole_at, ended}
use Rattle.xdr_codec.specs.Handle.{file_of, handle_bytes}
use Rattle.rpc_record.specs.Header.{front_form, call_form, reply_form}
use Rattle.rpc_record.specs.declared.header.Direction.{Direction}
use Rattle.rpc_record.specs.declared.header.Direction.TheVariants as direction
use Rattle.rpc_record.specs.declared.header.Front.{Front}
use Rattle.rpc_record.specs.declared.header.CallHead.{CallHead}
use Rattle.rpc_record.specs.declared.header.ReplyHead.{ReplyHead}
use Rattle.wire.specs.declared.message.Program.{Program}
use Rattle.wire.specs.declared.message.Side.{Side}
use Rattle.wire.specs.declared.message.Side.TheVariants as side
use Rattle.wire.specs.declared.message.RpcRefusal.{RpcRefusal}
use Rattle.wire.specs.declared.message.RpcRefusal.TheVariants as refusal
use Rattle.wire.specs.declared.fault.WireFault.TheVariants as fault
use Rattle.wire.specs.declared.message.Message.TheVariants as message
use Rattle.wire.specs.declared.fault.WireFault.TheVariants.{NotRpc, Garbage, UnknownXid}
use Rattle.wire.specs.Message.{args_of, result_of}
use Rattle.wire.specs.Parse.{read_or, refusal_of, replied, parse_reply, parse_by, parse_call, parse_call_body, called, taken, with_args, waiting}
use Rattle.wire.proofs.lemmas.Sizes.{small_fits}
use Rattle.callback_core.specs.BackCalls.{recall_pending, call_at}
use Rattle.client_cache.specs.Cache.{without_note}
use Rattle.client_state.specs.State as client
use Rattle.client_state.specs.Noting.{at as at_clock}
use Rattle.client_state.specs.Counting.{sends_one}
use Rattle.open_close.specs.Step.{recalls}
use Rattle.lease_law.specs.Claims.{recall_message}
use Rattle.server_core.specs.Leasing.{Leasing, later, heard}
use Rattle.server_core.specs.State as server
use Rattle.server_core.specs.Step.{got_if_under, is_recalled}
use Rattle.server_core.specs.declared.journal.Entry.{Entry}
use Rattle.trace_ends.specs.Core.{idles, server_got, newest_entries, changed_file, server_waits, changed_entry, raws_with, raw_in}
use Rattle.kept_promise.proofs.Common.{Entries, slice_get, slice_set, MessageFits, message_spell, parse_of, IsExpected, Message, Waiting, WireFault, Op, TakenCall, Traffic, counted, no_counts, ops_after, ops_with, pointed_at, Core, Seat, Session, Event.Serves, Event.Hears, CoreStep, Loss.Nothing, quiet, numbered, with_numbered, happens, is_newest, hears, hears_at, hears_if, serves, serves_if, acted, got_step, stands, Book, Queue, reply_message, Task, owner_in, client_of, taken_by, taken_from, taken_if, wanted_by, given_by, serves_unless, raws_with, has_waiting, is_raw, Tree, loses, Entry}
use Rattle.kept_promise.proofs.Facts.{IsKept, IsLeasing}
use Rattle.kept_promise.proofs.Fits.{FitLaws}
use Rattle.kept_promise.proofs.Lists.{some_is, nothing_there, true_and_false}
use Rattle.kept_promise.proofs.Caches.{AddsNone, same_notes, unnoted_notes}
use Rattle.file_open.specs.Looking.{reading}
use Rattle.trace_replay.specs.Trail.{given_in, given_by_message, given_by_record, given_from}
use Rattle.kept_promise.proofs.Adjusts.{with_kept}
use Rattle.kept_promise.proofs.Turns.{also_numbered, unnoted, owned_uncut, CameOn, came_same, came_on}
use Rattle.kept_promise.proofs.Mixes.{with_same}
use Rattle.kept_promise.proofs.RunsCarried.{FindsReply, FindsRecall}
use Rattle.register_model.specs.declared.raw.Raw.{Raw}
use Rattle.kept_promise.proofs.ServesFiles.{newest_more}
use Rattle.kept_promise.proofs.RecallsKept.{used_recalls, AreRecalls, recall_at, recalls_at}
use Rattle.xdr_codec.specs.Xdr.{u32_form}
use Rattle.wire.specs.declared.message.Body.{Body}

-- ---- they have records

pub reply_fits : (xid : ℕ) → xid < 4294967296 → MessageFits (reply_message xid)
reply_fits xid x = small_fits (reply_message xid) (x, (refl, tt)) tt

pub recall_fits : (xid file : ℕ) → xid < 4294967296 → MessageFits (recall_message xid file)
recall_fits xid file x = small_fits (recall_message xid file) (x, (refl, (lit< tt, (omega (arith, handle_len file), omega (arith, handle_len file))))) tt
  where
    handle_len : (name : ℕ) → length (handle_bytes name) ≡ 16
    handle_len name = refl

-- ---- what is read of an answer is one, or a refusal

abbrev pub is_reply : Message → Bool
is_reply (message.Call xid b) = false
is_reply (message.Answer xid b) = true
is_reply (message.Refuse xid why) = true
is_reply (message.Unfit xid why) = false

message_in : (m n : Message) → ◌≡◌ {A = Result Message WireFault} (Ok m) (Ok n) → m ≡ n
message_in m n e = cc

replied_is : (n xid : ℕ) (p : Program) (why : Option RpcRefusal) (i : Input) (m : Message) → replied n xid p why i ≡ Ok m → is_reply m ≡ true
replied_is n xid p None i m e = by (whole_at i.at (result_of n p) i.rest) e
  where
    by : (r : Result _ Fault) → read_or Garbage r (λ a. Ok (message.Answer xid a)) ≡ Ok m → is_reply m ≡ true
    by (Ok a) e = ap is_reply (sym (message_in (message.Answer xid a) m e))
    by (Err f) e = absurd cc
replied_is n xid p (Some why) i m e = by (ended i) e
  where
    by : {A : Type 0} → (r : Result A Fault) → read_or Garbage r (λ _. Ok (message.Refuse xid why)) ≡ Ok m → is_reply m ≡ true
    by (Ok a) e = ap is_reply (sym (message_in (message.Refuse xid why) m e))
    by (Err f) e = absurd cc

reply_is : (n xid : ℕ) (p : Option Program) (i : Input) (m : Message) → parse_reply n xid p i ≡ Ok m → is_reply m ≡ true
reply_is n xid None i m e = absurd cc
reply_is n xid (Some p) i m e = by (reply_form.read i) e
  where
    by : (r : Result (ReplyHead × Input) Fault) → read_or Garbage r (λ head. replied n xid p (refusal_of head.0) head.1) ≡ Ok m → is_reply m ≡ true
    by (Ok h) e = replied_is n xid p (refusal_of h.0) h.1 m e
    by (Err f) e = absurd cc

-- what is no answer is read alike whatever waits
by_alike : (v w : Waiting) → v.side ≡ w.side → v.lbfs ≡ w.lbfs → (xid : ℕ) (d : Direction) (i : Input) (m : Message) → is_reply m ≡ false → parse_by v xid d i ≡ Ok m → parse_by w xid d i ≡ Ok m
by_alike v w same lbfs xid direction.Call i m none e = ap (λ s. parse_call s w.lbfs xid i) (sym same) ∙ ap (λ n. parse_call v.side n xid i) (sym lbfs) ∙ e
by_alike v w same lbfs xid direction.Reply i m none e = absurd (by (sym none ∙ reply_is v.lbfs xid (waiting xid v.calls) i m e))
  where
    by : false ≡ true → ⊥
    by z = cc

pub read_alike : (v w : Waiting) → v.side ≡ w.side → v.lbfs ≡ w.lbfs → (bytes : List ℕ) (m : Message) → is_reply m ≡ false → parse_of v bytes ≡ Ok m → parse_of w bytes ≡ Ok m
read_alike v w same lbfs bytes m none e = by (front_form.read (record { at = 0; rest = bytes })) e
  where
    by : (r : Result (Front × Input) Fault) → read_or NotRpc r (λ front. parse_by v front.0.xid front.0.direction front.1) ≡ Ok m → read_or NotRpc r (λ front. parse_by w front.0.xid front.0.direction front.1) ≡ Ok m
    by (Ok front) e = by_alike v w same lbfs front.0.xid front.0.direction front.1 m none e
    by (Err f) e = absurd cc

-- an answer to a RECALL is read as an answer, or as none that is waited for
pub reply_read : FitLaws → (w : Waiting) → w.side ≡ side.Server → (xid : ℕ) → xid < 4294967296 → (m : Message) → parse_of w (message_spell (reply_message xid)) ≡ Ok m → is_reply m ≡ true
reply_read laws w server xid small m e = by (is_reply m) refl
  where
    asked : Waiting
    asked = record { side = side.Server; lbfs = w.lbfs; calls = recall_pending xid ∷ [] }

    found : IsExpected asked (reply_message xid)
    found = (grind (arith, Rattle.std.proofs.lemmas.Bool.Decides.nat_tests), tt)

    by : (b : Bool) → is_reply m ≡ b → is_reply m ≡ true
    by true is = is
    by false is =
        let alike = read_alike w asked server refl (message_spell (reply_message xid)) m is e in
        let same : m ≡ reply_message xid = message_in m (reply_message xid) (sym alike ∙ laws.again asked (reply_message xid) (reply_fits xid small).0 found) in
        ap is_reply same

-- ---- the server takes one: a step in which its leasing alone changes

no_entry : (journal : List Entry) → newest_entries journal 0 ≡ []
no_entry journal = drop_all (length journal - 0) journal (omega arith)

unpointed : (ops : List Op) (closing : Option ℕ) (step : ℕ) → pointed_at ops closing step None ≡ ops
unpointed ops None step = refl
unpointed ops (Some p) step = refl

leased : (k : Core) (n : ℕ) (x : Session) (l : Leasing) → numbered k.sessions n ≡ Some x
    → record (quiet (record k { steps = k.steps + 1; server = record k.server { leasing = l }; sessions = with_numbered k.sessions n x; ops = pointed_at k.ops x.closing (k.steps + 1) (changed_file (newest_entries k.server.journal 0)); entries = k.entries ++ [] })) { down = [] } ≡ idles (record k { server = record k.server { leasing = l } })
leased k n x l at =
    ap (λ (zs : List Session). quiet (record k { steps = k.steps + 1; server = record k.server { leasing = l }; sessions = zs; ops = pointed_at k.ops x.closing (k.steps + 1) (changed_file (newest_entries k.server.journal 0)); entries = k.entries ++ [] })) (with_same k.sessions n x at)
    ∙ ap (λ (es : List Entry). quiet (record k { steps = k.steps + 1; server = record k.server { leasing = l }; ops = pointed_at k.ops x.closing (k.steps + 1) (changed_file es); entries = k.entries ++ [] })) (no_entry k.server.journal)
    ∙ ap (λ (os : List Op). quiet (record k { steps = k.steps + 1; server = record k.server { leasing = l }; ops = os; entries = k.entries ++ [] })) (unpointed k.ops x.closing (k.steps + 1))
    ∙ ap (λ (es : List ℕ). quiet (record k { steps = k.steps + 1; server = record k.server { leasing = l }; entries = es })) (append-nil k.entries)

-- whether or not its session stands
abbrev heard_by : Bool → Leasing → (n now xid : ℕ) → (done : Bool) → Leasing
heard_by true g n now xid done = heard (later g now) n xid done
heard_by false g n now xid done = g

leasing_stays : (t : Bool) (g : Leasing) (n now xid : ℕ) (done : Bool) → IsLeasing g → IsLeasing (heard_by t g n now xid done)
leasing_stays true g n now xid done h = (h.0, used_recalls n xid g.calls h.1)
leasing_stays false g n now xid done h = h

-- what makes no entry notes no change
none_noted : (raws : List Raw) (b : Bool) (step : ℕ) (t : Tree) (journal : List Entry) → raws_with raws b step step t (changed_entry (newest_entries journal 0)) ≡ raws
none_noted raws true step t journal = ap (λ (es : List Entry). raws ++ raw_in step step t (changed_entry es)) (ap (λ (l : List Entry). newest_entries l 0) (sym (append-nil journal)) ∙ newest_more journal [] 0 refl) ∙ append-nil raws
none_noted raws false step t journal = refl

reply_got : (k : Core) (n now : ℕ) (x : Session) (m : Message) → numbered k.sessions n ≡ Some x → is_reply m ≡ true → (l : Leasing) × (unnoted k (server_got k n now x m) ≡ idles (record k { server = record k.server { leasing = l } })) × (IsLeasing k.server.leasing → IsLeasing l) × CameOn k.came (server_got k n now x m).core.came (k.steps + 1) × ((server_got k n now x m).core.raws ≡ k.raws)
reply_got k n now x (message.Answer y b) at is = (heard_by (stands k.server n) k.server.leasing n now y (is_recalled b), by (stands k.server n), leasing_stays (stands k.server n) k.server.leasing n now y (is_recalled b), came_on k.came (has_waiting k.server.waiting n) n (k.steps + 1), raws_by (stands k.server n))
  where
    by : (t : Bool) → (let r = got_if_under k.server false t n (message.Answer y b) now in record (quiet (record k { steps = k.steps + 1; server = r.0; sessions = with_numbered k.sessions n x; ops = pointed_at k.ops x.closing (k.steps + 1) (changed_file (newest_entries r.0.journal r.1.entries)); entries = k.entries ++ replicate r.1.entries (k.steps + 1) })) { down = r.1.send }) ≡ idles (record k { server = record k.server { leasing = heard_by t k.server.leasing n now y (is_recalled b) } })
    by true = leased k n x (heard (later k.server.leasing now) n y (is_recalled b)) at
    by false = leased k n x k.server.leasing at

    raws_by : (t : Bool) → (let r = got_if_under k.server false t n (message.Answer y b) now in raws_with k.raws (is_raw x) (k.steps + 1) (k.steps + 1) r.0.tree (changed_entry (newest_entries r.0.journal r.1.entries))) ≡ k.raws
    raws_by true = none_noted k.raws (is_raw x) (k.steps + 1) k.server.tree k.server.journal
    raws_by false = none_noted k.raws (is_raw x) (k.steps + 1) k.server.tree k.server.journal
reply_got k n now x (message.Refuse y why) at is = (heard_by (stands k.server n) k.server.leasing n now y false, by (stands k.server n), leasing_stays (stands k.server n) k.server.leasing n now y false, came_on k.came (has_waiting k.server.waiting n) n (k.steps + 1), raws_by (stands k.server n))
  where
    by : (t : Bool) → (let r = got_if_under k.server false t n (message.Refuse y why) now in record (quiet (record k { steps = k.steps + 1; server = r.0; sessions = with_numbered k.sessions n x; ops = pointed_at k.ops x.closing (k.steps + 1) (changed_file (newest_entries r.0.journal r.1.entries)); entries = k.entries ++ replicate r.1.entries (k.steps + 1) })) { down = r.1.send }) ≡ idles (record k { server = record k.server { leasing = heard_by t k.server.leasing n now y false } })
    by true = leased k n x (heard (later k.server.leasing now) n y false) at
    by false = leased k n x k.server.leasing at

    raws_by : (t : Bool) → (let r = got_if_under k.server false t n (message.Refuse y why) now in raws_with k.raws (is_raw x) (k.steps + 1) (k.steps + 1) r.0.tree (changed_entry (newest_entries r.0.journal r.1.entries))) ≡ k.raws
    raws_by true = none_noted k.raws (is_raw x) (k.steps + 1) k.server.tree k.server.journal
    raws_by false = none_noted k.raws (is_raw x) (k.steps + 1) k.server.tree k.server.journal
reply_got k n now x (message.Call y b) at is = absurd cc
reply_got k n now x (message.Unfit y why) at is = absurd cc

-- the leasing of the server alone changes; or what comes is none that it waits for so, and it closes the session
abbrev pub Replied : Core → (n now : ℕ) → (bytes : List ℕ) → Session → Type 0
Replied k n now bytes x = ((l : Leasing) × (unnoted k (happens k (Serves n now bytes)) ≡ idles (record k { server = record k.server { leasing = l } })) × (IsLeasing k.server.leasing → IsLeasing l) × CameOn k.came (happens k (Serves n now bytes)).core.came (happens k (Serves n now bytes)).core.steps × ((happens k (Serves n now bytes)).core.raws ≡ k.raws))
    ⊎ (happens k (Serves n now bytes) ≡ loses k n x)

pub reply_taken : FitLaws → (k : Core) (qs : List Queue) (n now : ℕ) (bytes : List ℕ) (mid : List Queue) → (f : FindsReply k qs n bytes mid) → Replied k n now bytes f.session
reply_taken laws k qs n now bytes mid f =
    let is : happens k (Serves n now bytes) ≡ serves_if k n now f.session (parse_of (server_waits k n) (message_spell (reply_message f.xid))) =
    ap (serves k n now bytes) f.at ∙ ap (serves_unless k n now bytes f.session) f.unhung ∙ ap (λ (b : List ℕ). serves_if k n now f.session (parse_of (server_waits k n) b)) f.bytes_is in
    elim (by (parse_of (server_waits k n) (message_spell (reply_message f.xid))) refl) [
      | inl r ↦ inl (r.0, ap (unnoted k) is ∙ r.1, r.2, subst (λ (t : CoreStep). CameOn k.came t.core.came t.core.steps) (sym is) r.3, ap (λ (t : CoreStep). t.core.raws) is ∙ r.4)
      | inr r ↦ inr (is ∙ r)
    ]
  where
    by : (r : Result Message WireFault) → parse_of (server_waits k n) (message_spell (reply_message f.xid)) ≡ r
        → ((l : Leasing) × (unnoted k (serves_if k n now f.session r) ≡ idles (record k { server = record k.server { leasing = l } })) × (IsLeasing k.server.leasing → IsLeasing l) × CameOn k.came (serves_if k n now f.session r).core.came (serves_if k n now f.session r).core.steps × ((serves_if k n now f.session r).core.raws ≡ k.raws)) ⊎ (serves_if k n now f.session r ≡ loses k n f.session)
    by (Err (fault.UnknownXid xid)) is = inl (k.server.leasing, refl, (λ h. h), came_same k.came (k.steps + 1), refl)
    by (Err (fault.NotRpc place)) is = inr refl
    by (Err (fault.Garbage place)) is = inr refl
    by (Ok m) is = inl (reply_got k n now f.session m f.at (reply_read laws (server_waits k n) refl f.xid f.fits m is))

-- ---- it never closes its session

call_is : (who : Side) (n xid : ℕ) (i : Input) (m : Message) → parse_call who n xid i ≡ Ok m → is_reply m ≡ false
call_is who n xid i m e = by (u32_form.read i) e
  where
    args : (r : Result Body Fault) → is_reply (with_args xid r) ≡ false
    args (Ok b) = refl
    args (Err f) = refl

    taken_is : (v : ℕ) (r : Result Program RpcRefusal) (j : Input) → is_reply (taken xid v r j) ≡ false
    taken_is v (Ok p) j = args (whole_at j.at (args_of v p) j.rest)
    taken_is v (Err why) j = refl

    head : (r : Result (CallHead × Input) Fault) → read_or NotRpc r (λ h. Ok (taken xid h.0.version (called who n h.0) h.1)) ≡ Ok m → is_reply m ≡ false
    head (Ok h) e = ap is_reply (sym (message_in (taken xid h.0.version (called who n h.0) h.1) m e)) ∙ taken_is h.0.version (called who n h.0) h.1
    head (Err f) e = absurd cc

    version : (b : Bool) (j : Input) → (if b then parse_call_body who n xid j else Ok (message.Unfit xid (refusal.RpcMismatch 2 2))) ≡ Ok m → is_reply m ≡ false
    version true j e = head (call_form.read j) e
    version false j e = ap is_reply (sym (message_in (message.Unfit xid (refusal.RpcMismatch 2 2)) m e))

    by : (r : Result (ℕ × Input) Fault) → read_or NotRpc r (λ v. if v.0 == 2 then parse_call_body who n xid v.1 else Ok (message.Unfit xid (refusal.RpcMismatch 2 2))) ≡ Ok m → is_reply m ≡ false
    by (Ok v) e = version (v.0 == 2) v.1 e
    by (Err f) e = absurd cc

-- what is read as an answer where its xid waits is unknown where it doesn't
unasked_at : (v w : Waiting) (bytes : List ℕ) (m : Message) → is_reply m ≡ true → parse_of v bytes ≡ Ok m → ((xid : ℕ) (p : Program) → waiting xid v.calls ≡ Some p → waiting xid w.calls ≡ None) → (xid : ℕ) × (parse_of w bytes ≡ Err (UnknownXid xid))
unasked_at v w bytes m reply e none = by (front_form.read (record { at = 0; rest = bytes })) e
  where
    asked : (xid : ℕ) (i : Input) (o : Option Program) → waiting xid v.calls ≡ o → parse_reply v.lbfs xid o i ≡ Ok m → waiting xid w.calls ≡ None
    asked xid i None at e = absurd cc
    asked xid i (Some p) at e = none xid p at

    direct : (xid : ℕ) (d : Direction) (i : Input) → parse_by v xid d i ≡ Ok m → parse_by w xid d i ≡ Err (UnknownXid xid)
    direct xid direction.Call i e = absurd (true_and_false (is_reply m) reply (call_is v.side v.lbfs xid i m e))
    direct xid direction.Reply i e = ap (λ (o : Option Program). parse_reply w.lbfs xid o i) (asked xid i (waiting xid v.calls) refl e)

    by : (r : Result (Front × Input) Fault) → read_or NotRpc r (λ front. parse_by v front.0.xid front.0.direction front.1) ≡ Ok m → (xid : ℕ) × (read_or NotRpc r (λ front. parse_by w front.0.xid front.0.direction front.1) ≡ Err (UnknownXid xid))
    by (Ok front) e = (front.0.xid, direct front.0.xid front.0.direction front.1 e)
    by (Err f) e = absurd cc

-- an answer to a RECALL is read, or isn't waited for any more
pub reply_silent : FitLaws → (k : Core) (n now xid : ℕ) (x : Session) → numbered k.sessions n ≡ Some x → x.hung ≡ false → xid < 4294967296 → AreRecalls k.server.leasing.calls
    → (let t = happens k (Serves n now (message_spell (reply_message xid))) in (t.loss ≡ Nothing) × (t.session ≡ None))
reply_silent laws k n now xid x at unhung small recalls =
    subst (λ (t : CoreStep). (t.loss ≡ Nothing) × (t.session ≡ None)) (sym (ap (serves k n now bytes) at ∙ ap (serves_unless k n now bytes x) unhung)) (by (waiting xid w.calls) refl)
  where
    bytes : List ℕ
    bytes = message_spell (reply_message xid)

    w : Waiting
    w = server_waits k n

    asked : Waiting
    asked = record { side = side.Server; lbfs = w.lbfs; calls = recall_pending xid ∷ [] }

    found : IsExpected asked (reply_message xid)
    found = (grind (arith, Rattle.std.proofs.lemmas.Bool.Decides.nat_tests), tt)

    read : (r : Result Message WireFault) → parse_of w bytes ≡ r → (s : Result Message WireFault) → r ≡ s → ((serves_if k n now x s).loss ≡ Nothing) × ((serves_if k n now x s).session ≡ None) → ((serves_if k n now x (parse_of w bytes)).loss ≡ Nothing) × ((serves_if k n now x (parse_of w bytes)).session ≡ None)
    read r is s same h = subst (λ (z : Result Message WireFault). ((serves_if k n now x z).loss ≡ Nothing) × ((serves_if k n now x z).session ≡ None)) (sym (is ∙ same)) h

    by : (o : Option Program) → waiting xid w.calls ≡ o → ((serves_if k n now x (parse_of w bytes)).loss ≡ Nothing) × ((serves_if k n now x (parse_of w bytes)).session ≡ None)
    by (Some p) there =
        let own = recall_at (call_at k.server.leasing.calls n).waits xid p (recalls_at k.server.leasing.calls n recalls) there in
        read (parse_of w bytes) refl (Ok (reply_message xid)) (laws.again w (reply_message xid) (reply_fits xid small).0 (there ∙ ap (λ (z : Program). Some z) own, tt)) (refl, refl)
    by None none =
        let unknown = unasked_at asked w bytes (reply_message xid) refl (laws.again asked (reply_message xid) (reply_fits xid small).0 found) (λ y p e. only y p e) in
        read (parse_of w bytes) refl (Err (UnknownXid unknown.0)) unknown.1 (refl, refl)
      where
        only : (y : ℕ) (p : Program) → waiting y asked.calls ≡ Some p → waiting y w.calls ≡ None
        only y p e = same (xid == y) refl e
          where
            same : (b : Bool) → (xid == y) ≡ b → (if b then Some (recall_pending xid).program else None) ≡ Some p → waiting y w.calls ≡ None
            same true is e = ap (λ (z : ℕ). waiting z w.calls) (sym (let one : xid ≡ y = grind (arith, Rattle.std.proofs.lemmas.Bool.Decides.nat_tests, is) in one)) ∙ none
            same false is e = nothing_there p e

-- ---- a client hears a RECALL: its clock goes on, a note may go, and it answers

abbrev pub cache_without : Entries → Option ℕ → Entries
cache_without es None = es
cache_without es (Some file) = without_note es file

abbrev pub recalled_step : Core → (owner now : ℕ) → Seat → Entries → (xid : ℕ) → CoreStep
recalled_step k owner now seat es xid = record {
  core = record k { steps = k.steps + 1; seats = with_numbered k.seats owner (with_kept seat es (seat.client.index, now)) };
  loss = Nothing;
  session = seat.session;
  up = reply_message xid ∷ [];
  down = [];
}

pub record Recalled (k : Core) (n now : ℕ) (bytes : List ℕ) : Type 0 where
  pub session : Session
  pub seat : Seat
  pub xid : ℕ
  pub file : ℕ
  pub cache : Entries
  pub at : numbered k.sessions n ≡ Some session
  pub owner : numbered k.seats session.owner ≡ Some seat
  pub newest : seat.session ≡ Some n
  pub uncut : session.cut ≡ false
  pub cache_is : cache ≡ cache_without seat.client.cache (file_of (handle_bytes file))
  pub reads : parse_of (client.waiting_of seat.client) bytes ≡ Ok (recall_message xid file)
  pub is : happens k (Hears n now bytes) ≡ recalled_step k session.owner now seat cache xid

recalled_is : (s : client.State) (now : ℕ) (o : Option ℕ) → recalls (at_clock s now) o ≡ record s { clock = now; cache = cache_without s.cache o }
recalled_is s now None = refl
recalled_is s now (Some file) = refl

traffic_same : (t : Traffic) → counted t (record no_counts { bytes = 0 }) ≡ t
traffic_same t = by (omega arith) (omega arith) (omega arith) (omega arith)
  where
    by : t.cond + 0 ≡ t.cond → t.tmp + 0 ≡ t.tmp → t.read + 0 ≡ t.read → t.«data» + 0 ≡ t.«data» → counted t (record no_counts { bytes = 0 }) ≡ t
    by a b c d = ap (λ z. record { cond = z; tmp = t.tmp + 0; read = t.read + 0; «data» = t.«data» + 0 }) a ∙ ap (λ z. record { cond = t.cond; tmp = z; read = t.read + 0; «data» = t.«data» + 0 }) b ∙ ap (λ z. record { cond = t.cond; tmp = t.tmp; read = z; «data» = t.«data» + 0 }) c ∙ ap (λ z. record { cond = t.cond; tmp = t.tmp; read = t.read; «data» = z }) d

set_back : (ops : List Op) (p : ℕ) (o : Op) → slice_get ops p ≡ Some o → slice_set ops p o ≡ ops
set_back [] p o e = nothing_there o e
set_back (q ∷ ops) zero o e = ap (λ z. z ∷ ops) (sym (some_is q o e))
set_back (q ∷ ops) (suc p) o e = ap (λ l. q ∷ l) (set_back ops p o e)

-- a step that ends nothing, finds nothing and counts nothing leaves the operations
ops_same : (ops : List Op) (place : Option ℕ) (c : client.State) (taken : List TakenCall) (step : ℕ) (m : Message) → ops_with ops place c taken step (sends_one m 0) ≡ ops
ops_same ops None c taken step m = refl
ops_same ops (Some p) c taken step m = by (slice_get ops p) refl
  where
    by : (o : Option Op) → slice_get ops p ≡ o → ops_after ops p o c taken step (sends_one m 0) ≡ ops
    by None e = refl
    by (Some o) e = ap (λ (t : Traffic). slice_set ops p (record o { traffic = t })) (traffic_same o.traffic) ∙ set_back ops p o e

pub acted_is : (k : Core) (owner now : ℕ) (seat : Seat) (xid : ℕ) (o : Option ℕ) → acted k owner seat (recalls (at_clock seat.client now) o) (sends_one (reply_message xid) 0) ≡ recalled_step k owner now seat (cache_without seat.client.cache o) xid
acted_is k owner now seat xid o =
    ap (λ (s : client.State). acted k owner seat s (sends_one (reply_message xid) 0)) (recalled_is seat.client now o)
    ∙ ap (λ (os : List Op). record (recalled_step k owner now seat (cache_without seat.client.cache o) xid) { core = record k { steps = k.steps + 1; ops = os; seats = with_numbered k.seats owner (with_kept seat (cache_without seat.client.cache o) (seat.client.index, now)) } }) (ops_same k.ops seat.place _ _ (k.steps + 1) (reply_message xid))

newest_is : (o : Option ℕ) (n : ℕ) → o ≡ Some n → is_newest o n ≡ true
newest_is None n e = nothing_there n e
newest_is (Some m) n e = let same : m ≡ n = some_is m n e in grind (arith, Rattle.std.proofs.lemmas.Bool.Decides.nat_tests, same)

pub recall_heard : FitLaws → (book : Book) (k : Core) (qs : List Queue) (n now : ℕ) (bytes : List ℕ) (mid : List Queue) → IsKept book k qs → FindsRecall k qs n bytes mid → Recalled k n now bytes
recall_heard laws book k qs n now bytes mid kept f =
    let q = also_numbered k.sessions qs n f.session kept.made.1 f.at in
    let h = kept.sessions n f.session q.0 f.at q.1 (owned_uncut kept n f.session f.at f.uncut) in
    let newest = (h.here f.uncut).0 in
    let o : Option ℕ = file_of (handle_bytes f.file) in
    let reads : parse_of (client.waiting_of h.seat.client) bytes ≡ Ok (recall_message f.xid f.file) = ap (parse_of (client.waiting_of h.seat.client)) f.bytes_is ∙ laws.again (client.waiting_of h.seat.client) (recall_message f.xid f.file) (recall_fits f.xid f.file f.xid_fits).0 (refl, refl) in
    record {
      session = f.session;
      seat = h.seat;
      xid = f.xid;
      file = f.file;
      cache = cache_without h.seat.client.cache o;
      at = f.at;
      owner = h.owner;
      newest = newest;
      uncut = f.uncut;
      cache_is = refl;
      reads = reads;
      is = ap (hears k n now bytes) f.at ∙ ap (hears_at k n f.session.owner now bytes) h.owner ∙ ap (hears_if k f.session.owner now h.seat bytes) (newest_is h.seat.session n newest)
          ∙ ap (λ (r : Result Message WireFault). let g = got_step h.seat.client r now in acted k f.session.owner h.seat g.0 g.1) reads
          ∙ acted_is k f.session.owner now h.seat f.xid o;
    }

-- no note appears
pub without_adds : (es : Entries) (o : Option ℕ) → AddsNone es (cache_without es o)
without_adds es None = same_notes es
without_adds es (Some file) = unnoted_notes es file

pub recall_adds : (k : Core) (n now : ℕ) (bytes : List ℕ) (r : Recalled k n now bytes) → AddsNone r.seat.client.cache r.cache
recall_adds k n now bytes r = subst (AddsNone r.seat.client.cache) (sym r.cache_is) (without_adds r.seat.client.cache (file_of (handle_bytes r.file)))

-- and nothing is taken of it, or given
pub recall_takes : (k : Core) (n now : ℕ) (bytes : List ℕ) (r : Recalled k n now bytes) → taken_by k (client_of k (Hears n now bytes)) (Hears n now bytes) ≡ []
recall_takes k n now bytes r = ap (λ i. taken_by k i (Hears n now bytes)) (ap owner_in r.at) ∙ ap (taken_from n bytes) r.owner ∙ ap (taken_if r.seat.client bytes) (newest_is r.seat.session n r.newest) ∙ ap (wanted_by r.seat.client) r.reads

pub recall_gives : (k : Core) (n now : ℕ) (bytes : List ℕ) (r : Recalled k n now bytes) → given_by k (client_of k (Hears n now bytes)) (Hears n now bytes) ≡ []
recall_gives k n now bytes r = ap (λ i. given_by k i (Hears n now bytes)) (ap owner_in r.at) ∙ ap (given_from n bytes) r.owner ∙ ap (given_by_record r.seat.client bytes) (newest_is r.seat.session n r.newest) ∙ ap (given_by_message r.seat.client) r.reads ∙ none r.seat.client.task
  where
    none : (t : Option Task) → given_in r.seat.client (reading t (recall_message r.xid r.file)) ≡ []
    none None = refl
    none (Some t) = refl

-- so of a RECALL no client takes anything
pub recall_untaken : FitLaws → (book : Book) (k : Core) (qs : List Queue) (n now : ℕ) (bytes : List ℕ) (mid : List Queue) → IsKept book k qs → FindsRecall k qs n bytes mid → taken_by k (client_of k (Hears n now bytes)) (Hears n now bytes) ≡ []
recall_untaken laws book k qs n now bytes mid kept f = recall_takes k n now bytes (recall_heard laws book k qs n now bytes mid kept f)

-- and no operation changes
pub recall_ops : FitLaws → (book : Book) (k : Core) (qs : List Queue) (n now : ℕ) (bytes : List ℕ) (mid : List Queue) → IsKept book k qs → FindsRecall k qs n bytes mid → (happens k (Hears n now bytes)).core.ops ≡ k.ops
recall_ops laws book k qs n now bytes mid kept f = ap (λ (t : CoreStep). t.core.ops) (recall_heard laws book k qs n now bytes mid kept f).is
