-- A lease that is noted changes of a step nothing but what is kept.
use Rattle.std.proofs.Common.{◌≡◌, refl, sym, ap, subst, ◌∙◌, ℕ, true, false}
use Rattle.std.specs.Prelude.{Option, Some, None}
use Rattle.chunk_index.specs.Index.{Indexed}
use Rattle.lease_rules.specs.Leases.{note_until}
use Rattle.client_state.specs.Noting.{noted_until, noted, noting}
use Rattle.client_state.specs.State.{State}
use Rattle.client_state.specs.declared.noting.Granted.{Granted}
use Rattle.client_state.specs.declared.step.ClientStep.{ClientStep}
use Rattle.file_open.specs.Fetching.{Comes, Lacks, IsLacking, with_index}
use Rattle.file_open.specs.Looking.{Entering}

until_index : (s : State) (file version : ℕ) (o : Option ℕ) → (noted_until s file version o).index ≡ s.index
until_index s file version None = refl
until_index s file version (Some until) = refl

noted_index : (s : State) (sent file : ℕ) (g : Option Granted) → (noted s sent file g).index ≡ s.index
noted_index s sent file None = refl
noted_index s sent file (Some g) = until_index s file g.version (note_until sent g.term s.drift)

until_with : (s : State) (index : Indexed) (file version : ℕ) (o : Option ℕ) → noted_until (with_index s index) file version o ≡ with_index (noted_until s file version o) index
until_with s index file version None = refl
until_with s index file version (Some until) = refl

noted_with : (s : State) (index : Indexed) (sent file : ℕ) (g : Option Granted) → noted (with_index s index) sent file g ≡ with_index (noted s sent file g) index
noted_with s index sent file None = refl
noted_with s index sent file (Some g) = until_with s index file g.version (note_until sent g.term s.drift)

-- what was to come, or what lacks places of the index, with the note of a lease
pub comes_noted : (old : Indexed) (enters : Option Entering) (comes : State × ClientStep) (new : State) (step : ClientStep) (sent file : ℕ) (g : Option Granted) → Comes old enters comes new step → Comes old enters (noting sent file g comes) (noted new sent file g) step
comes_noted old enters comes new step sent file g h = record {
  exact = λ e. ap (noting sent file g) (h.exact e);
  lacks = λ e.
      let l : Lacks old enters comes new step = h.lacks e in
      record {
        lacks = subst (λ (i : Indexed). IsLacking old enters i) (sym (noted_index new sent file g)) l.lacks;
        rest =
            ap (λ (t : State). noted t sent file g) l.rest
            ∙ (noted_with comes.0 new.index sent file g
            ∙ ap (λ (i : Indexed). with_index (noted comes.0 sent file g) i) (sym (noted_index new sent file g)));
        said = l.said;
      };
}
