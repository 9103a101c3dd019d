-- The calls that may still go out, through what a step of a close sends.
use Rattle.std.proofs.Common.{◌≡◌, refl, sym, ap, ℕ, suc, ◌+◌, ◌-◌, ◌<◌, ◌≤◌, ◌^◌, ◌==◌, List, [], ◌∷◌, ◌++◌, length, Bool, true, false, not, arith}
use Rattle.std.proofs.lemmas.List.{length-append}
use Rattle.std.proofs.lemmas.Option.{slice_get_within}
use Rattle.std.specs.Prelude.{Option, Some, None, cond, slice_get}
use Rattle.chunk_cut.specs.declared.chunk.Chunk.{Chunk}
use Rattle.wire.specs.declared.message.Message.{Message}
use Rattle.file_close.specs.Closing.{Names, names_next, names_more, store_at, without_store, answered, with_whole, cond_call}
use Rattle.client_state.specs.View.{IsStore, HasXids, calls_after, calls_after_all, store_left}
use Rattle.file_close.specs.Sending.{IsSendingNames}
use Rattle.client_state.specs.declared.task.Upload.{Upload}
use Rattle.client_state.specs.declared.task.UploadCall.{UploadCall}
use Rattle.client_state.specs.declared.task.Stage.TheVariants as stage
use Rattle.client_state.specs.declared.task.Way.TheVariants as way

pushed : (ms : List Message) (m : Message) → length (ms ++ m ∷ []) ≡ length ms + 1
pushed ms m = length-append ms (m ∷ [])

calls_after_push : (us : List UploadCall) (u : UploadCall) → calls_after_all (us ++ u ∷ []) ≡ calls_after_all us + calls_after u.way
calls_after_push [] u = omega arith
calls_after_push (v ∷ vs) u = let h = calls_after_push vs u in omega (arith, h)

pub names_kept : (lbfs named next : ℕ) (n : Names) → IsSendingNames named next n → IsSendingNames named next (names_next lbfs n (slice_get n.store.chunks n.store.named))
names_kept lbfs named next n h = by (slice_get n.store.chunks n.store.named) refl
  where
    by : (o : Option Chunk) → slice_get n.store.chunks n.store.named ≡ o → IsSendingNames named next (names_next lbfs n o)
    by None e = h
    by (Some c) e =
        let k = h.within in
        let lt = slice_get_within n.store.chunks n.store.named c e in
        record {
          within = record { few = k.few; lens = k.lens; named = (let le : n.store.named + 1 ≤ length n.store.chunks = omega (arith, lt) in le) };
          xids = (let x = h.xids in let p = calls_after_push n.store.under (record { xid = n.next_xid; index = n.store.named; way = way.Named }) in omega (arith, x, lt, p));
          rises = (let x = h.rises in omega (arith, x));
          counted = (let x = h.counted in let p = pushed n.send (cond_call lbfs n.next_xid n.store.temp c) in omega (arith, x, p));
        }

pub name_xid : (named next : ℕ) (n : Names) → IsSendingNames named next n → n.next_xid + 1 < 2 ^ 32
name_xid named next n h = let x = h.xids in omega (arith, x)

pub names_step : (lbfs : ℕ) (n : Names) (k i : ℕ) → i < k → names_more lbfs (k - (i + 1)) (names_next lbfs n (slice_get n.store.chunks n.store.named)) ≡ names_more lbfs (k - i) n
names_step lbfs n k i lt = let e : k - i ≡ suc (k - (i + 1)) = omega (arith, lt) in ap (λ j. names_more lbfs j n) (sym e)

-- ---- an answer

less_at : (us : List UploadCall) (xid : ℕ) → calls_after_all (without_store us xid) ≤ calls_after_all us
less_at [] xid = omega arith
less_at (v ∷ vs) xid = by (v.xid == xid) (less_at vs xid)
  where
    by : (b : Bool) → calls_after_all (without_store vs xid) ≤ calls_after_all vs
        → calls_after_all (cond (not b) (v ∷ without_store vs xid) (without_store vs xid)) ≤ calls_after v.way + calls_after_all vs
    by true h = omega (arith, h)
    by false h = omega (arith, h)

none_some : {u : UploadCall} → None ≡ Some u → ⊥
none_some e = cc

after_answer : (us : List UploadCall) (xid : ℕ) (u : UploadCall) → store_at us xid ≡ Some u → calls_after_all (without_store us xid) + calls_after u.way ≤ calls_after_all us
after_answer [] xid u e = absurd (none_some e)
after_answer (v ∷ vs) xid u e = by (v.xid == xid) e (less_at vs xid) (after_answer vs xid u)
  where
    way_of : Option UploadCall → ℕ
    way_of None = 0
    way_of (Some w) = calls_after w.way

    by : (b : Bool) → cond b (Some v) (store_at vs xid) ≡ Some u → calls_after_all (without_store vs xid) ≤ calls_after_all vs
        → (store_at vs xid ≡ Some u → calls_after_all (without_store vs xid) + calls_after u.way ≤ calls_after_all vs)
        → calls_after_all (cond (not b) (v ∷ without_store vs xid) (without_store vs xid)) + calls_after u.way ≤ calls_after v.way + calls_after_all vs
    by true e l h = let same : calls_after v.way ≡ calls_after u.way = ap way_of e in omega (arith, l, same)
    by false e l h = let m = h e in omega (arith, m)

-- the call that was answered is no longer under way, and what its answer may bring about is counted
pub calls_after_answer : (st : Upload) (next xid : ℕ) (u : UploadCall) → store_at st.under xid ≡ Some u → HasXids next (stage.Storing st) → next + store_left (answered st xid) + calls_after u.way < 2 ^ 32
calls_after_answer st next xid u e h = let a = after_answer st.under xid u e in omega (arith, a, h)

-- the bytes of a chunk go out in the place of its name
pub whole_xids : (st : Upload) (c : UploadCall) (next xid : ℕ) → next + store_left st + 1 < 2 ^ 32 → HasXids (next + 1) (stage.Storing (with_whole st c xid))
whole_xids st c next xid h = let a = calls_after_push st.under (record { xid = xid; index = c.index; way = way.Whole }) in omega (arith, a, h)

pub whole_within : (st : Upload) (c : UploadCall) (xid : ℕ) → IsStore st → IsStore (with_whole st c xid)
whole_within st c xid h = record { few = h.few; lens = h.lens; named = h.named }

-- what `send_whole` goes by
pub ruleset by_send_whole = (whole_xids, whole_within)
