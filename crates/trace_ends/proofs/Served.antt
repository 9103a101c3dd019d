-- A record that the server takes, from what its message came to, and a connection that it sees lost.
use Rattle.std.proofs.Common.{◌≡◌, ℕ, zero, suc, ◌+◌, ◌<◌, List, length, Option, Some, None, [], true, false, arith, refl, sym, ap, subst, ◌∙◌, slice_index_or}
use Rattle.std.specs.Prelude.{slice_get, Result, Ok, Err, IfOk, IfSome}
use Rattle.std.proofs.lemmas.Option.{slice_get_read}
use Rattle.wire.specs.Parse.{parse_of}
use Rattle.wire.specs.declared.message.Message.{Message}
use Rattle.wire.specs.declared.fault.WireFault.{WireFault}
use Rattle.trace_ends.specs.Core.{Core, CoreStep, server_waits, serves_if, serves_unless, serves, loses, hangs_if, hangs}
use Rattle.trace_ends.specs.Session.{Session}
use Rattle.trace_ends.specs.Numbers.{numbered}
use Rattle.trace_ends.specs.declared.core_step.Loss.TheVariants as lost
use Rattle.trace_ends.specs.declared.core_step.CoreStep.{CoreStep as Left}
use Rattle.trace_ends.proofs.Commanded.{as_core_step}

pub serves_is : {T E : Type 0} (k : Core) (place number now : ℕ) (bytes : List ℕ) (x : Session) (p : Result Message WireFault) (r : Result T E) (left : T → CoreStep)
    → place < length k.sessions
    → x ≡ slice_index_or k.sessions place x
    → x.hung ≡ false
    → parse_of (server_waits k number) bytes ≡ p
    → IfOk r (λ t. IfSome (slice_get k.sessions place) (λ y. left t ≡ serves_if k number now y p))
    → IfOk r (λ t. left t ≡ serves k number now bytes (slice_get k.sessions place))
serves_is k place number now bytes x p (Err e) left lt is stands parsed told = tt
serves_is k place number now bytes x p (Ok t) left lt is stands parsed told =
    let at = slice_get_read k.sessions (length k.sessions) place x refl lt is in
    subst (λ (o : Option Session). IfSome o (λ y. left t ≡ serves_if k number now y p)) at told
    ∙ ap (serves_if k number now x) (sym parsed)
    ∙ ap (serves_unless k number now bytes x) (sym stands)
    ∙ ap (serves k number now bytes) (sym at)

pub hangs_is : {T E : Type 0} (k : Core) (place number : ℕ) (x : Session) (r : Result T E) (left : T → CoreStep)
    → number ≡ place + 1
    → place < length k.sessions
    → x ≡ slice_index_or k.sessions place x
    → x.hung ≡ false
    → IfOk r (λ t. IfSome (slice_get k.sessions place) (λ y. left t ≡ loses k (place + 1) y))
    → IfOk r (λ t. left t ≡ hangs k number (numbered k.sessions number))
hangs_is k place number x (Err e) left next lt is stands told = tt
hangs_is k place zero x (Ok t) left next lt is stands told = absurd (omega (arith, next))
hangs_is k place (suc n) x (Ok t) left next lt is stands told =
    let at = slice_get_read k.sessions (length k.sessions) place x refl lt is in
    let same : place ≡ n = omega (arith, next) in
    subst (λ (o : Option Session). IfSome o (λ y. left t ≡ loses k (place + 1) y)) at told
    ∙ ap (λ (m : ℕ). loses k m x) (sym next)
    ∙ ap (hangs_if k (suc n) x) (sym stands)
    ∙ ap (hangs k (suc n)) (sym at ∙ ap (slice_get k.sessions) same)

abbrev pub nothing : Left
nothing = record { loss = lost.Nothing; session = None; up = []; down = [] }

-- nothing comes of a session that is lost already
pub unserved : (k : Core) (place now : ℕ) (bytes : List ℕ) (x : Session) (t : Left)
    → place < length k.sessions
    → x ≡ slice_index_or k.sessions place x
    → x.hung ≡ true
    → t ≡ nothing
    → as_core_step k t ≡ serves k (place + 1) now bytes (slice_get k.sessions place)
unserved k place now bytes x t lt is hung left =
    ap (as_core_step k) left
    ∙ ap (serves_unless k (place + 1) now bytes x) (sym hung)
    ∙ ap (serves k (place + 1) now bytes) (sym (slice_get_read k.sessions (length k.sessions) place x refl lt is))

pub unhung : (k : Core) (place number : ℕ) (x : Session) (t : Left)
    → number ≡ place + 1
    → place < length k.sessions
    → x ≡ slice_index_or k.sessions place x
    → x.hung ≡ true
    → t ≡ nothing
    → as_core_step k t ≡ hangs k number (numbered k.sessions number)
unhung k place zero x t next lt is hung left = absurd (omega (arith, next))
unhung k place (suc n) x t next lt is hung left =
    let same : place ≡ n = omega (arith, next) in
    ap (as_core_step k) left
    ∙ ap (hangs_if k (suc n) x) (sym hung)
    ∙ ap (hangs k (suc n)) (sym (slice_get_read k.sessions (length k.sessions) place x refl lt is) ∙ ap (slice_get k.sessions) same)
