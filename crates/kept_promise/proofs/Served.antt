-- The server takes the first call on its way: all calls together.
use Rattle.std.proofs.Common.{inl, inr, ◌≡◌, ℕ, ◌+◌, List, [], ◌∷◌, Some, Bool, true, false, refl, sym, ap, ◌∙◌, subst, ◌++◌}
use Rattle.kept_promise.proofs.Common.{not, message_spell, Message, stands, got_if, Core, Session, Event.Serves, CoreStep, numbered, with_numbered, serves_if, serves, taken_with, quiet, happens, Book, Call, Call.Lease, Call.Hash, Call.Read, Call.Make, Call.Name, Call.Send, Call.Commit, Ask, Queue, ask_message, Call.Walks, at, ServerStep}
use Rattle.server_core.specs.State as server
use Rattle.kept_promise.proofs.Turns.{also_numbered, unnoted, owned_up}
use Rattle.kept_promise.proofs.Fits.{FitLaws}
use Rattle.kept_promise.proofs.Serves.{parsed_at, serves_as, leads_got}
use Rattle.kept_promise.proofs.Calls.{Given, session_in, first_fits, rest_of, serve_lease, serve_hash, serve_read, serve_make, serve_send, serve_walk}
use Rattle.kept_promise.proofs.Knowing.{serve_name}
use Rattle.kept_promise.proofs.Commits.{serve_commit}
use Rattle.kept_promise.proofs.CallsKeep.{is_of_files, makes_call, walk_made}
use Rattle.kept_promise.proofs.MakingServes.{serve_making}
use Rattle.kept_promise.proofs.GoingServes.{serve_going}
use Rattle.kept_promise.proofs.PathNames.{making_is}
use Rattle.kept_promise.proofs.ServesFiles.{got_quiet}
use Rattle.kept_promise.proofs.Leading.{Leads, KeptServes}
use Rattle.kept_promise.proofs.WalkReplies.{called_walk}

-- what the server does for a message, where its session stands or not
abbrev got_by : Core → (n now : ℕ) → Session → Message → Bool → CoreStep
got_by k n now x m b =
    let r = got_if k.server b n m now in
    record (quiet (record k { steps = k.steps + 1; server = r.0; sessions = with_numbered k.sessions n (record x { taken = taken_with x.taken m (k.steps + 1) }) })) { down = r.1.send }

-- the server did this for a call
abbrev did_by : Core → (n : ℕ) → Session → (xid : ℕ) → server.State × ServerStep → CoreStep
did_by k n x xid r = record (quiet (record k { steps = k.steps + 1; server = r.0; sessions = with_numbered k.sessions n (record x { taken = x.taken ++ record { xid = xid; step = k.steps + 1 } ∷ [] }) })) { down = r.1.send }

serve_call : FitLaws → (book : Book) (k : Core) (qs : List Queue) (n now : ℕ) (x : Session) (q : Queue) (lbfs xid : ℕ) (c : Call) (us : List Ask) → Given book k qs n now x q (record { lbfs = lbfs; xid = xid; call = c }) us → makes_call c ≡ false → Leads book (rest_of qs n q us) (got_by k n now x (ask_message (record { lbfs = lbfs; xid = xid; call = c })) true)
serve_call laws book k qs n now x q lbfs xid (Lease f) us g none = serve_lease laws book k qs n now x q lbfs xid f us g
serve_call laws book k qs n now x q lbfs xid (Hash f o) us g none = serve_hash laws book k qs n now x q lbfs xid f o us g
serve_call laws book k qs n now x q lbfs xid (Read f d) us g none = serve_read laws book k qs n now x q lbfs xid f d us g
serve_call laws book k qs n now x q lbfs xid (Make m f) us g none = serve_make laws book k qs n now x q lbfs xid m f us g
serve_call laws book k qs n now x q lbfs xid (Name m d) us g none = serve_name laws book k qs n now x q lbfs xid m d us g
serve_call laws book k qs n now x q lbfs xid (Send m start bytes) us g none = serve_send laws book k qs n now x q lbfs xid m start bytes us g
serve_call laws book k qs n now x q lbfs xid (Commit m f size) us g none = serve_commit laws book k qs n now x q lbfs xid m f size us g
serve_call laws book k qs n now x q lbfs xid (Walks w) us g none =
    let fits = first_fits book k qs n now x q (record { lbfs = lbfs; xid = xid; call = Walks w }) us g in
    subst (λ (r : server.State × ServerStep). Leads book (rest_of qs n q us) (did_by k n x xid r)) (sym (called_walk (at k.server now) n xid w fits.1 none)) (serve_walk laws book k qs n now x q lbfs xid w us g none)

pub kept_serves : FitLaws → KeptServes
kept_serves laws book k qs n now q a us kept is e noted = by (also_numbered qs k.sessions n q (sym kept.made.1) is)
  where
    given : (x : Session) → numbered k.sessions n ≡ Some x → (b : Bool) → x.hung ≡ b → Given book k qs n now x q a us
    given x at false hung = record { kept = kept; at = at; is = is; owned = owned_up kept n x q at is a us e; first = e; unhung = hung; noted = noted }
    given x at true hung = absurd (no_ups ((kept.sessions n x q at is (owned_up kept n x q at is a us e)).lost hung))
      where
        none_is : a ∷ us ≡ [] → ⊥
        none_is z = absurd cc

        no_ups : q.ups ≡ [] → ⊥
        no_ups none = none_is (sym e ∙ none)

    -- a call of which nothing is made
    plain : (x : Session) → Given book k qs n now x q a us → makes_call a.call ≡ false → Leads book (rest_of qs n q us) (happens k (Serves n now (message_spell (ask_message a))))
    plain x g none =
        let h = session_in book k qs n now x q a us g in
        let bytes = message_spell (ask_message a) in
        let standing : stands k.server n ≡ true = h.stands_is ∙ ap not g.unhung in
        let read = parsed_at laws k n a (first_fits book k qs n now x q a us g) in
        let is_turned : unnoted k (happens k (Serves n now bytes)) ≡ got_by k n now x (ask_message a) true =
        ap (unnoted k) (serves_as k n now bytes x (ask_message a) g.at g.unhung read) ∙ got_quiet k n now x (ask_message a) (is_of_files a (first_fits book k qs n now x q a us g) none) ∙ ap (got_by k n now x (ask_message a)) standing in
        leads_got book k (rest_of qs n q us) n now bytes x g.at g.owned (subst (Leads book (rest_of qs n q us)) (sym is_turned) (serve_call laws book k qs n now x q a.lbfs a.xid a.call us g none))

    by : (x : Session) × (numbered k.sessions n ≡ Some x) → Leads book (rest_of qs n q us) (happens k (Serves n now (message_spell (ask_message a))))
    by x = makes (makes_call a.call) refl
      where
        g : Given book k qs n now x.0 q a us
        g = given x.0 x.1 x.0.hung refl

        makes : (b : Bool) → makes_call a.call ≡ b → Leads book (rest_of qs n q us) (happens k (Serves n now (message_spell (ask_message a))))
        makes false none = plain x.0 g none
        makes true some =
            let w = walk_made a.call some in
            subst (λ (c : Call). Given book k qs n now x.0 q (record { lbfs = a.lbfs; xid = a.xid; call = c }) us → Leads book (rest_of qs n q us) (happens k (Serves n now (message_spell (ask_message (record { lbfs = a.lbfs; xid = a.xid; call = c })))))) (sym w.1) (λ given_. elim (making_is w.0.left w.0.goal w.2) [ inl builds ↦ serve_making laws book k qs n now x.0 q a.lbfs a.xid w.0 us given_ builds | inr goes ↦ serve_going laws book k qs n now x.0 q a.lbfs a.xid w.0 us given_ goes ]) g
