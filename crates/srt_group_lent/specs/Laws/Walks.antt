-- Laws for the proofs that walk a function's MIR: what a thin function does once its call has returned, and how its locals die. They are
-- over types and values of any kind, since a walk that computes with the types of a record and an answer passes the checker's limit.
use Rattle.std.specs.Prelude.{◌≡◌, refl, List, [], ◌∷◌, ℕ, zero, T}
use Rattle.std.proofs.Common.{sym, subst}
use Rattle.std.proofs.Math.Option.{some}
use seplogic.Ra.Ura.{Ura}
use base.Fraction.{full_share}
use mir.Syntax.{Sym, Ty, Tys, ty_struct, Step, deref, field, place, copy, rv_opd, Body, seq, assign, return}
use mir.Raw.{raw as raw-type}
use mir.Val.{Val, Vals, vptr, vstruct, WT, has_ty}
use mir.Fields.{get_v}
use base.Logic.{SProp, ent}
use base.Fml.{fat, froom, fdies}
use prog.Memory.{field_at}
use prog.Wp.{Env, Spot, spot_of, Calls, Loops, Wp, at_return, release}
use types.Logic.{Logic}
use types.Kit.{Item, ‵, ⋆, at_ret, ◌$◌, ◌∵◌, !, qed, by, frees, prop, Seq, Go}
use types.Part.{whole, sub, look_in}
use types.Run.{Walks, Finds, exec, look, init, store_raw, stop, hop, fld, from, load, of_opd, assigns, forget, free1}

-- ---- after the call

-- of the local `returned`, a struct, one field goes behind the reference in local 1 and another is the result; then the function returns
abbrev pub stores_and_returns : (returned kept answered : ℕ) → Ty → Body
stores_and_returns returned kept answered τ =
    seq (assign (place 1 (deref τ ∷ [])) (rv_opd (copy (place returned (field kept ∷ [])))))
    (seq (assign (place 0 []) (rv_opd (copy (place returned (field answered ∷ []))))) return)

module _ {M : Type 1} {𝓤 : Ura M} (𝓛 : Logic 𝓤) (C : Calls 𝓤 𝓛.H) (Λ : Loops 𝓤 𝓛.H) (E : Env 𝓤 𝓛.H) where
  -- where a local lies, and its type
  open 𝓛 use {H}

  abbrev pub Lies : ℕ → Ty → ℕ → Type 0
  Lies i τ l = spot_of 𝓤 H E i ≡ (τ, l, zero)

  found : {Γ : List (Item 𝓤)} {i : ℕ} {τ : Ty} {l : ℕ} {st : List Step} {sp : Spot 𝓤 H} → Lies i τ l
      → Walks (Go {0}) 𝓛 Γ E (τ, l, zero) st sp → Finds (Go {0}) 𝓛 Γ E (place i st) sp
  found {Γ} {st = st} {sp = sp} lies way = from ! (subst (λ (s : Spot 𝓤 H). Walks (Go {0}) 𝓛 Γ E s st sp) (sym lies) way)

  module _ (returned kept answered : ℕ) (ν : Sym) (τs : Tys) (τ_kept τ_answer τ_group : Ty) (l_result l_group l_returned d_kept d_answer : ℕ)
      (result_lies : Lies 0 τ_answer l_result) (group_lies : Lies 1 τ_group l_group) (returned_lies : Lies returned (ty_struct ν τs) l_returned)
      (kept_at : field_at zero τs kept ≡ some (τ_kept, d_kept)) (answer_at : field_at zero τs answered ≡ some (τ_answer, d_answer))
      (b o : ℕ) (before : Val) (vs : Vals)
      (kept_typed : T (has_ty τ_kept (get_v vs kept)) × WT (get_v vs kept)) (answer_typed : T (has_ty τ_answer (get_v vs answered)) × WT (get_v vs answered)) where
    -- the two locals that are read, and what else is held
    abbrev pub reading : List (Item 𝓤) → List (Item 𝓤)
    reading Γ = ‵ (fat full_share τ_group l_group zero (vptr b o)) ∷ ‵ (fat full_share (ty_struct ν τs) l_returned zero (vstruct vs)) ∷ Γ

    pub stores : (Γ : List (Item 𝓤)) (Kf : Val → SProp 𝓤)
        → ent 𝓤 (⋆ 𝓛 (‵ (fat full_share (raw-type τ_kept) b o (get_v vs kept)) ∷ ‵ (fat full_share τ_answer l_result zero (get_v vs answered)) ∷ reading Γ)) (Wp 𝓤 H C Λ E return (at_return 𝓤 H E Kf))
        → ent 𝓤 (⋆ 𝓛 (‵ (fat full_share (raw-type τ_kept) b o before) ∷ ‵ (froom τ_answer l_result zero) ∷ reading Γ)) (Wp 𝓤 H C Λ E (stores_and_returns returned kept answered τ_kept) (at_return 𝓤 H E Kf))
    stores Γ Kf then =
        qed 𝓛 (‵ (fat full_share (raw-type τ_kept) b o before) ∷ ‵ (froom τ_answer l_result zero) ∷ reading Γ) ∵
        exec ! C Λ E (stores_and_returns returned kept answered τ_kept) (at_ret E Kf) $
        assigns ! (of_opd ! (load ! (found returned_lies (fld ! kept_at (stop !))) (look_in ! 3 (sub ! kept kept_at (whole !))))) (found group_lies (hop ! (look ! 2 refl) (stop !))) (store_raw ! 0 refl kept_typed) $
        assigns ! (of_opd ! (load ! (found returned_lies (fld ! answer_at (stop !))) (look_in ! 3 (sub ! answered answer_at (whole !))))) (found result_lies (stop !)) (init ! 1 refl answer_typed) $
        by ! then

-- ---- the end

-- a local that holds a value
pub record Cell : Type 0 where
  pub type : Ty
  pub at : ℕ
  pub holds : Val

abbrev pub cell : Ty → ℕ → Val → Cell
cell τ l v = record { type = τ; at = l; holds = v }

module _ {M : Type 1} {𝓤 : Ura M} (𝓛 : Logic 𝓤) where
  -- what is held of them, before what else is held
  open 𝓛 use {H}

  abbrev pub with_cells : List Cell → List (Item 𝓤) → List (Item 𝓤)
  with_cells [] Γ = Γ
  with_cells (c ∷ cs) Γ = ‵ (fat full_share c.type c.at zero c.holds) ∷ ‵ (fdies c.type c.at) ∷ with_cells cs Γ

  abbrev pub places : List Cell → Env 𝓤 H
  places [] = []
  places (c ∷ cs) = (c.type, c.at) ∷ places cs

  -- one local dies, and the others after it
  dies : (c : Cell) (cs : List Cell) (Γ : List (Item 𝓤)) (P : SProp 𝓤)
      → ent 𝓤 (⋆ 𝓛 (with_cells cs Γ)) (release 𝓤 H (places cs) P)
      → Seq (Go {0}) 𝓛 (with_cells (c ∷ cs) Γ) (frees (places (c ∷ cs)) (prop P))
  dies c cs Γ P others = forget ! 0 refl $ free1 ! $ by ! others

  pub die : (cs : List Cell) (Γ : List (Item 𝓤)) (P : SProp 𝓤) → ent 𝓤 (⋆ 𝓛 Γ) P → ent 𝓤 (⋆ 𝓛 (with_cells cs Γ)) (release 𝓤 H (places cs) P)
  die [] Γ P shown = shown
  die (c ∷ cs) Γ P shown = (dies c cs Γ P (die cs Γ P shown)).prf
