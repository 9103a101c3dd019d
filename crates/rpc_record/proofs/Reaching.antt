-- What one more header tells of the record at the front.
use Rattle.std.proofs.Common.{◌≡◌, ℕ, suc, ◌+◌, ◌-◌, ◌<◌, ◌≤◌, List, [], ◌++◌, length, take, drop, true, false, Some, None, refl, sym, ap, ◌∙◌, arith, length-append, append_assoc}
use Rattle.std.proofs.lemmas.List.{length-drop, length-take, drop-append-le, drop-drop}
use Rattle.limits.specs.declared.TheConstants.{RECORD_MOST, FRAGMENTS_MOST}
use Rattle.rpc_record.specs.declared.fragments.Header.{Header}
use Rattle.rpc_record.specs.declared.fragments.Progress.{Progress}
use Rattle.rpc_record.specs.declared.refusal.Refusal.{Refusal}
use Rattle.rpc_record.specs.declared.refusal.Refusal.TheVariants.{TooBig, TooManyFragments}
use Rattle.rpc_record.specs.Records.{header_of, Whole, Begun, Bad, front, record_of}
use Rattle.rpc_record.specs.Progress.{Reaches, EndsAt}
use Rattle.rpc_record.proofs.Fronts.{front_none, front_out, out_many, front_big, front_short, front_last, front_more, append_none}

-- nothing is known
pub reach_start : (bytes : List ℕ) → Reaches bytes (record { at = 0; more = FRAGMENTS_MOST; promised = 0 })
unfolding record_of
reach_start bytes = record { contents = []; promised = refl; within = omega arith; fits = omega arith; few = omega arith; stands = λ behind. refl }

-- what is known stays known
pub reach_behind : (bytes behind : List ℕ) (p : Progress) → Reaches bytes p → Reaches (bytes ++ behind) p
reach_behind bytes behind p r = record {
  contents = r.contents;
  promised = r.promised;
  within = omega (arith, r.within, length-append bytes behind);
  fits = r.fits;
  few = r.few;
  stands = λ more. ap record_of (append_assoc bytes behind more) ∙ r.stands (behind ++ more) ∙ ap (λ (z : List ℕ). front p.more r.contents z) (sym (append_assoc (drop p.at bytes) behind more) ∙ ap (λ (z : List ℕ). z ++ more) (sym (drop-append-le p.at bytes behind r.within)));
}

-- what is known, with nothing behind it
pub reach_now : (bytes : List ℕ) (p : Progress) (r : Reaches bytes p) → record_of bytes ≡ front p.more r.contents (drop p.at bytes)
reach_now bytes p r = ap record_of (sym (append_none bytes)) ∙ r.stands [] ∙ ap (λ (z : List ℕ). front p.more r.contents z) (append_none (drop p.at bytes))

pub reach_none : (bytes : List ℕ) (p : Progress) → Reaches bytes p → header_of (drop p.at bytes) ≡ None → record_of bytes ≡ Begun
reach_none bytes p r e = reach_now bytes p r ∙ front_none p.more r.contents (drop p.at bytes) e

pub reach_out : (bytes : List ℕ) (p : Progress) (h : Header) → Reaches bytes p → header_of (drop p.at bytes) ≡ Some h → p.more ≡ 0 → p.promised + h.len ≤ RECORD_MOST → record_of bytes ≡ Bad TooManyFragments
reach_out bytes p h r e none le = reach_now bytes p r ∙ ap (λ (n : ℕ). front n r.contents (drop p.at bytes)) none ∙ front_out r.contents (drop p.at bytes) h e ∙ ap (λ (why : Refusal). Bad why) (out_many h r.contents (omega (arith, le, r.promised)))

-- a record that may have another fragment
pub reach_next : (bytes behind : List ℕ) (p : Progress) (r : Reaches bytes p) → 0 < p.more → record_of (bytes ++ behind) ≡ front (suc (p.more - 1)) r.contents (drop p.at bytes ++ behind)
reach_next bytes behind p r some = let one : p.more ≡ suc (p.more - 1) = omega (arith, some) in r.stands behind ∙ ap (λ (n : ℕ). front n r.contents (drop p.at bytes ++ behind)) one

pub reach_big : (bytes : List ℕ) (p : Progress) (h : Header) → Reaches bytes p → header_of (drop p.at bytes) ≡ Some h → RECORD_MOST < p.promised + h.len → record_of bytes ≡ Bad (TooBig (p.promised + h.len))
reach_big bytes p h r e lt =
    ap record_of (sym (append_none bytes)) ∙ r.stands [] ∙ front_big p.more r.contents (drop p.at bytes) [] h e (omega (arith, lt, r.promised)) ∙ ap (λ (n : ℕ). Bad (TooBig (n + h.len))) r.promised

pub reach_short : (bytes : List ℕ) (p : Progress) (h : Header) → Reaches bytes p → header_of (drop p.at bytes) ≡ Some h → 0 < p.more → p.promised + h.len ≤ RECORD_MOST → length (drop p.at bytes) < 4 + h.len → record_of bytes ≡ Begun
reach_short bytes p h r e some le lt =
    ap record_of (sym (append_none bytes)) ∙ reach_next bytes [] p r some ∙ ap (λ (z : List ℕ). front (suc (p.more - 1)) r.contents z) (append_none (drop p.at bytes))
    ∙ front_short (p.more - 1) r.contents (drop p.at bytes) h e (omega (arith, le, r.promised)) lt

-- where the fragment behind a place ends
pub after_fragment : (bytes : List ℕ) (at n : ℕ) → drop n (drop 4 (drop at bytes)) ≡ drop (at + 4 + n) bytes
after_fragment bytes at n = ap (λ (z : List ℕ). drop n z) (drop-drop 4 at bytes) ∙ drop-drop n (at + 4) bytes

pub reach_whole : (bytes : List ℕ) (p : Progress) (h : Header) → Reaches bytes p → header_of (drop p.at bytes) ≡ Some h → 0 < p.more → p.promised + h.len ≤ RECORD_MOST → 4 + h.len ≤ length (drop p.at bytes) → h.last ≡ true → EndsAt bytes (p.at + 4 + h.len)
reach_whole bytes p h r e some le long last = record {
  contents = r.contents ++ take h.len (drop 4 (drop p.at bytes));
  within = omega (arith, long, r.within, length-drop p.at bytes);
  some = omega arith;
  is = ap record_of (sym (append_none bytes)) ∙ reach_next bytes [] p r some ∙ front_last (p.more - 1) r.contents (drop p.at bytes) [] h e (omega (arith, le, r.promised)) long last
      ∙ ap (λ (z : List ℕ). Whole (r.contents ++ take h.len (drop 4 (drop p.at bytes))) z) (append_none (drop h.len (drop 4 (drop p.at bytes))) ∙ after_fragment bytes p.at h.len);
}

pub reach_more : (bytes : List ℕ) (p : Progress) (h : Header) → Reaches bytes p → header_of (drop p.at bytes) ≡ Some h → 0 < p.more → p.promised + h.len ≤ RECORD_MOST → 4 + h.len ≤ length (drop p.at bytes) → h.last ≡ false
    → Reaches bytes (record { at = p.at + 4 + h.len; more = p.more - 1; promised = p.promised + h.len })
reach_more bytes p h r e some le long last = record {
  contents = r.contents ++ take h.len (drop 4 (drop p.at bytes));
  promised = omega (arith, r.promised, long, length-append r.contents (take h.len (drop 4 (drop p.at bytes))), length-take h.len (drop 4 (drop p.at bytes)), length-drop 4 (drop p.at bytes));
  within = omega (arith, long, r.within, length-drop p.at bytes);
  fits = le;
  few = omega (arith, r.few);
  stands = λ behind. reach_next bytes behind p r some ∙ front_more (p.more - 1) r.contents (drop p.at bytes) behind h e (omega (arith, le, r.promised)) long last
      ∙ ap (λ (z : List ℕ). front (p.more - 1) (r.contents ++ take h.len (drop 4 (drop p.at bytes))) (z ++ behind)) (after_fragment bytes p.at h.len);
}
