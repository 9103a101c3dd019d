-- The calls that may still go out, through the READs that a step sends.
use Rattle.std.proofs.Common.{◌≡◌, refl, sym, ap, ◌∙◌, ℕ, suc, ◌+◌, ◌-◌, ◌<◌, ◌≤◌, ◌^◌, List, [], ◌∷◌, ◌++◌, length, Bool, true, false, arith}
use Rattle.std.proofs.lemmas.List.{length-append}
use Rattle.std.proofs.lemmas.Option.{slice_get_within}
use Rattle.std.specs.Prelude.{Option, Some, None, cond, nat_lt, slice_get, slice_set}
use Rattle.chunk_cut.specs.declared.chunk.Chunk.{Chunk}
use Rattle.wire.specs.declared.message.Message.{Message}
use Rattle.chunk_index.specs.Index.{Indexed}
use Rattle.client_cache.specs.Cache.{Entries}
use Rattle.file_open.proofs.Keeping.{kept_length}
use Rattle.file_open.proofs.Slots.{set_fits}
use Rattle.file_open.specs.Caching.{from_index}
use Rattle.transfer_rules.specs.Limits.{calls_most}
use Rattle.file_open.specs.Opening.{Reads, reads_from, reads_chunk, reads_next, reads_more, read_call}
use Rattle.client_state.specs.View.{FitsIn, IsReading, HasXids}
use Rattle.file_open.specs.Sending.{IsSendingReads}
use Rattle.client_state.specs.declared.task.Fetch.{Fetch}
use Rattle.client_state.specs.declared.task.ReadCall.{ReadCall}
use Rattle.client_state.specs.declared.task.Stage.TheVariants as stage

pushed : (ms : List Message) (m : Message) → length (ms ++ m ∷ []) ≡ length ms + 1
pushed ms m = length-append ms (m ∷ [])

-- before any
pub sending_first : (f : Fetch) (next : ℕ) → IsReading f → HasXids next (stage.Reading f) → IsSendingReads f next (reads_from f next)
sending_first f next within xids = record {
  within = within;
  xids = xids;
  rises = (let le : next ≤ next = omega arith in le);
  counted = (let e : length f.under ≡ length f.under + 0 = omega arith in e);
  further = (let le : f.asked ≤ f.asked = omega arith in le);
  chunks = refl;
}

pub reads_kept : (cache : Entries) (index : Indexed) (file : ℕ) (f : Fetch) (next : ℕ) (r : Reads) → IsSendingReads f next r → IsSendingReads f next (reads_next cache index file r (slice_get r.fetch.chunks r.fetch.asked))
reads_kept cache index file f next r h = by (slice_get r.fetch.chunks r.fetch.asked) refl
  where
    by : (o : Option Chunk) → slice_get r.fetch.chunks r.fetch.asked ≡ o → IsSendingReads f next (reads_next cache index file r o)
    by None e = h
    by (Some c) e = chunk (from_index cache index c) refl
      where
        lt : r.fetch.asked < length r.fetch.chunks
        lt = slice_get_within r.fetch.chunks r.fetch.asked c e

        within : (slots : List (Option (List ℕ))) (under : List ReadCall) → FitsIn slots r.fetch.chunks → IsReading (record r.fetch { asked = r.fetch.asked + 1; under = under; slots = slots })
        within slots under fits =
            let k = h.within.0 in
            (record { sum = k.sum; size = k.size; limit = k.limit; few = k.few; lens = k.lens; tries = k.tries }, fits, let le : r.fetch.asked + 1 ≤ length r.fetch.chunks = omega (arith, lt) in le)

        chunk : (o : Option (List ℕ)) → from_index cache index c ≡ o → IsSendingReads f next (reads_chunk file r c o)
        chunk (Some b) at = record {
          within = within (slice_set r.fetch.slots r.fetch.asked (Some b)) r.fetch.under (set_fits r.fetch.slots r.fetch.chunks r.fetch.asked c b h.within.1 e (kept_length cache index c b at));
          xids = (let x = h.xids in omega (arith, x, lt));
          rises = h.rises;
          counted = h.counted;
          further = (let x = h.further in omega (arith, x));
          chunks = h.chunks;
        }
        chunk None at = record {
          within = within r.fetch.slots (r.fetch.under ++ record { xid = r.next_xid; index = r.fetch.asked } ∷ []) h.within.1;
          xids = (let x = h.xids in omega (arith, x, lt));
          rises = (let x = h.rises in omega (arith, x));
          counted = (let x = h.counted in let p = pushed r.send (read_call r.next_xid file c) in let q = length-append r.fetch.under (record { xid = r.next_xid; index = r.fetch.asked } ∷ []) in omega (arith, x, p, q));
          further = (let x = h.further in omega (arith, x));
          chunks = h.chunks;
        }

-- a chunk that is there, with what the index gives of it
pub next_is : (cache : Entries) (index : Indexed) (file : ℕ) (r : Reads) (o : Option Chunk) (c : Chunk) (kept : Option (List ℕ)) → o ≡ Some c → kept ≡ from_index cache index c → reads_chunk file r c kept ≡ reads_next cache index file r o
next_is cache index file r o c kept e h = ap (reads_chunk file r c) h ∙ ap (reads_next cache index file r) (sym e)

-- where there is room for one, its xid has room
pub read_xid : (f : Fetch) (next : ℕ) (r : Reads) → IsSendingReads f next r → r.next_xid + 1 < 2 ^ 32
read_xid f next r h = let x = h.xids in omega (arith, x)

-- so many chunks, after one of them
pub reads_step : (cache : Entries) (index : Indexed) (file : ℕ) (r : Reads) (k i : ℕ) → i < k → nat_lt (length r.fetch.under) calls_most ≡ true
    → reads_more (k - (i + 1)) cache index file (reads_next cache index file r (slice_get r.fetch.chunks r.fetch.asked)) ≡ reads_more (k - i) cache index file r
reads_step cache index file r k i lt room =
    let e : k - i ≡ suc (k - (i + 1)) = omega (arith, lt) in
    let goes : (b : Bool) → Reads = λ b. cond b (reads_more (k - (i + 1)) cache index file (reads_next cache index file r (slice_get r.fetch.chunks r.fetch.asked))) r in
    ap goes (sym room) ∙ ap (λ n. reads_more n cache index file r) (sym e)

-- and none where no more may be under way
pub reads_full : (cache : Entries) (index : Indexed) (file : ℕ) (r : Reads) (k i : ℕ) → i < k → nat_lt (length r.fetch.under) calls_most ≡ false → r ≡ reads_more (k - i) cache index file r
reads_full cache index file r k i lt full =
    let e : k - i ≡ suc (k - (i + 1)) = omega (arith, lt) in
    let goes : (b : Bool) → Reads = λ b. cond b (reads_more (k - (i + 1)) cache index file (reads_next cache index file r (slice_get r.fetch.chunks r.fetch.asked))) r in
    ap goes (sym full) ∙ ap (λ n. reads_more n cache index file r) (sym e)
