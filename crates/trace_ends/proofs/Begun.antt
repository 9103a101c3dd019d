-- The two ends before anything happened, from what each part of them is.
use Rattle.std.proofs.Common.{◌≡◌, ℕ, List, [], ap, ◌∙◌}
use Rattle.server_core.specs.State as server
use Rattle.register_model.specs.declared.op.Op.{Op}
use Rattle.register_model.specs.declared.raw.Raw.{Raw}
use Rattle.trace_ends.specs.Core.{Core}
use Rattle.trace_ends.specs.Session.{Seat, Session}

abbrev pub core_with : server.State → List Seat → List Session → List Op → (entries came : List ℕ) → List Raw → Core
core_with s seats sessions ops entries came raws = record { server = s; drift = 0; lbfs = 1; seats = seats; sessions = sessions; steps = 0; ops = ops; entries = entries; came = came; raws = raws }

pub begun : (s : server.State) (seats : List Seat) (sessions : List Session) (ops : List Op) (entries came : List ℕ) (raws : List Raw)
    → s ≡ server.with_term server.empty 0
    → seats ≡ []
    → sessions ≡ []
    → ops ≡ []
    → entries ≡ []
    → came ≡ []
    → raws ≡ []
    → core_with s seats sessions ops entries came raws ≡ core_with server.empty [] [] [] [] [] []
begun s seats sessions ops entries came raws is no_seat no_session no_op no_entry none_came no_raw =
    ap (λ (x : server.State). core_with x seats sessions ops entries came raws) is
    ∙ ap (λ (x : List Seat). core_with server.empty x sessions ops entries came raws) no_seat
    ∙ ap (λ (x : List Session). core_with server.empty [] x ops entries came raws) no_session
    ∙ ap (λ (x : List Op). core_with server.empty [] [] x entries came raws) no_op
    ∙ ap (λ (x : List ℕ). core_with server.empty [] [] [] x came raws) no_entry
    ∙ ap (λ (x : List ℕ). core_with server.empty [] [] [] [] x raws) none_came
    ∙ ap (λ (x : List Raw). core_with server.empty [] [] [] [] [] x) no_raw
