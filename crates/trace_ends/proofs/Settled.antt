-- A change that was made by a session that is no client's, from what each part of it gives.
use Rattle.std.proofs.Common.{◌≡◌, ℕ, zero, suc, ◌+◌, ◌<◌, List, length, Option, Some, Bool, arith, refl, sym, ap, ◌∙◌, slice_index_or}
use Rattle.std.specs.Prelude.{slice_get, Result, Ok, Err, OnOk}
use Rattle.std.proofs.lemmas.Option.{slice_get_read}
use Rattle.server_core.specs.declared.journal.Entry.{Entry}
use Rattle.register_model.specs.declared.raw.Raw.{Raw}
use Rattle.trace_ends.specs.Core.{Core, raws_on, raws_with}
use Rattle.trace_ends.specs.Session.{Session, is_raw}
use Rattle.trace_ends.specs.Numbers.{numbered}

stands_at : {A : Type 0} (xs : List A) (place number : ℕ) (x : A) → number ≡ place + 1 → place < length xs → x ≡ slice_index_or xs place x → numbered xs number ≡ Some x
stands_at xs place zero x next lt is = absurd (omega (arith, next))
stands_at xs place (suc n) x next lt is =
    let same : place ≡ n = omega (arith, next) in
    ap (slice_get xs) (sym same) ∙ slice_get_read xs (length xs) place x refl lt is

pub raws_are : {T E : Type 0} (k : Core) (came place number begin : ℕ) (x : Session) (raw : Bool) (e : Option Entry) (raws : List Raw) (r : Result T E)
    → number ≡ came + 1
    → came < length k.came
    → begin ≡ slice_index_or k.came came begin
    → number ≡ place + 1
    → place < length k.sessions
    → x ≡ slice_index_or k.sessions place x
    → raw ≡ is_raw x
    → OnOk r (raws ≡ raws_with k.raws raw begin k.steps k.server.tree e)
    → OnOk r (record k { raws = raws } ≡ record k { raws = raws_on k.raws (numbered k.came number) k.steps k.server.tree e (numbered k.sessions number) })
raws_are k came place number begin x raw e raws (Err z) c_next c_lt c_is next lt is same told = tt
raws_are k came place number begin x raw e raws (Ok z) c_next c_lt c_is next lt is same told =
    ap (λ (l : List Raw). record k { raws = l })
    (told
    ∙ ap (λ (b : Bool). raws_with k.raws b begin k.steps k.server.tree e) same
    ∙ sym (ap (λ (o : Option ℕ). raws_on k.raws o k.steps k.server.tree e (numbered k.sessions number)) (stands_at k.came came number begin c_next c_lt c_is)
    ∙ ap (λ (o : Option Session). raws_on k.raws (Some begin) k.steps k.server.tree e o) (stands_at k.sessions place number x next lt is)))
