-- What walks share: proofs by hand, along the MIR, of functions that the borrow checker does not cover.
--     dropped, Silent, fits, had, all_go    of a list of parameters: nothing is had of one at exit, and nothing is said
--     Exit, ends       what a walk ends in where nothing is had of the parameters, and how: the result and the tokens are enough, with the `ensures` shown
--     number           what a `u64` or a `usize` owns is had for nothing
--     calls-told       a call whose callee's `ensures` shows φ: once it has returned, the result and the tokens are at the head, and φ is known
--     answers          a call of a function of plain values, which are had for nothing: its result is the value that its `ensures` says
--     proves           a walk of a function's MIR from what its parameters own to `Exit` is a proof of the function
--     proves-with      the same of a walk that ends with hs had of the parameters, as of a `&mut`
-- Assumes nothing.
use mathlib.Core.Path.{◌≡◌, refl, sym, subst}
use mathlib.Core.List.{List, [], ◌∷◌}
use Prim.Native.Nat.{ℕ, ◌<◌, ◌^◌}
use seplogic.Ra.Ura.{Ura}
use mir.Syntax.{Callee, Place, Body, Fn, Opd as Operand, seq, call, w64}
use mir.Val.{Val, vint}
use base.Logic.{SProp, ent, emp, sep, via, id⊢, emp∗, mono_r, fst∗, snd∗, ex_e}
use base.Fml.{ftrue}
use prog.Model.{Model}
use prog.Routine.{Env as Naming}
use prog.Wp.{Env, Calls, Loops, WpFn, Closed}
use sound.WpLaws.{FmC, fm_of, WpFn-mono}
use types.Logic.{Logic, sem}
use contract.Lifetimes.{Lfts, Shares, AllOutlive}
use contract.Monad.{fact}
use contract.Running.{Running, tables, tables_of}
use types.Kit.{Item, Post, Goal, Seq, Step, Go, lands, runs, ‵, raw, some, later, ◌⊛◌, ◌$◌, ◌∵◌, !, qed, move, drop, use0, use1, split, join, pick, suffices, await, done}
use types.Run.{Opds}
use denote.RattleType.{Denots, Valss, flat}
use denote.Laws.{Is, Ises, Are, Spells, Tellss, shows, valss}
use denote.Plain.{UInt, uint_Makes}
use denote.Exit.{Last, left}
use denote.Signature.{Slot, Signature, type_at, types_at}
use denote.Steps.{owned, peeks, heard}
use denote.Triple.Call.{calls_at}
use denote.Triple.Clauses.{Ended, Clauses, Lasts, at_exit, lasts, ensured, closing}
use denote.Triple.End.{Kepts, Fins}
use denote.Triple.Entry.{Args, Res, alive, on_entry}
use denote.Triple.Spec.{Meets, triple_of}
use denote.Triple.Statement.{Contract, Triple}
use denote.Triple.Table.{entered}
use denote.Triple.Walked.{Stays, AllGo, stay_dropped, fits_of, has_of, Goes-dropped, walk_of, ends_at, walked, walk_Meets}

-- ---- parameters of which nothing is had at exit
module _ {n : ℕ} where
  abbrev pub dropped : (ss : List (Slot n)) (ks : Kepts ss) → Stays ss ks
  dropped [] ks = tt
  dropped (s ∷ ss) ks = (stay_dropped s ks.0, dropped ss ks.1)

  abbrev pub Silent : (ss : List (Slot n)) → Kepts ss → Type 1
  Silent [] ks = Unit {1}
  Silent (s ∷ ss) ks = ((κs : Lfts n) (x : (s.row κs).Denot) (f : Last ((s.row κs).exit ks.0) x) → left ((s.row κs).exit ks.0) x f ≡ ftrue) × Silent ss ks.1

  pub fits : (κs : Lfts n) (ss : List (Slot n)) (ks : Kepts ss) (a : Denots (types_at ss κs)) (ws : Fins κs ss ks a) → fits_of κs ss ks (dropped ss ks) a ws
  fits κs [] ks a ws = tt
  fits κs (s ∷ ss) ks a ws = (tt, fits κs ss ks.1 a.1 ws.1)

module _ {M : Type 1} {𝓤 : Ura M} (𝓛 : Logic 𝓤) {n : ℕ} where
  pub had : (κs : Lfts n) (ss : List (Slot n)) (ks : Kepts ss) (a : Denots (types_at ss κs)) (ws : Fins κs ss ks a) (vss : Valss (types_at ss κs)) → ent 𝓤 (emp 𝓤) (sem 𝓛 (has_of κs ss ks (dropped ss ks) a ws vss))
  had κs [] ks a ws vss = id⊢ 𝓤 (emp 𝓤)
  had κs (s ∷ ss) ks a ws vss = via 𝓤 (sep 𝓤 (emp 𝓤) (emp 𝓤)) (emp∗ 𝓤 (emp 𝓤)) (mono_r 𝓤 (emp 𝓤) (had κs ss ks.1 a.1 ws.1 vss.1))

  pub all_go : (ss : List (Slot n)) (ks : Kepts ss) → Silent ss ks → AllGo 𝓛 n ss ks (dropped ss ks)
  all_go [] ks q = tt
  all_go (s ∷ ss) ks q = (Goes-dropped 𝓛 n s ks.0 q.0, all_go ss ks.1 q.1)

-- ---- the end of a walk
module _ {M : Type 1} {𝓤 : Ura M} (𝓛 : Logic 𝓤) (T : Ended) (c : Clauses 𝓤 T) where
  abbrev stayed : Stays T.signature.params T.kept
  stayed = dropped T.signature.params T.kept

  abbrev Walk : Contract 𝓤
  Walk = walk_of 𝓛 T stayed c

  abbrev pub Exit : Walk.Ghost → Val → SProp 𝓤
  Exit = Walk.post

  pub ends : (y : Walk.Ghost) (v : Val) (r : Res T.signature y.0.0) (ws : Lasts T y.0.0 y.0.3) → ent 𝓤 (emp 𝓤) ((c y.0.0 y.0.3).ensures y.1 r (at_exit T y.0.0 y.0.3 ws))
      → ent 𝓤 (sep 𝓤 (sem 𝓛 ((type_at T.signature.result y.0.0).own_val r (v ∷ []))) (alive 𝓛 T.signature y.0.0 y.0.1)) (Exit y v)
  ends y v r ws told =
      qed 𝓛 (‵ ((type_at T.signature.result y.0.0).own_val r (v ∷ [])) ∷ raw (alive 𝓛 T.signature y.0.0 y.0.1) ∷ []) ∵
      suffices ! _ (ends_at 𝓛 T stayed c y v r ws (fits y.0.0 T.signature.params T.kept y.0.3 ws)) $
      use0 𝓛 (raw ((c y.0.0 y.0.3).ensures y.1 r (at_exit T y.0.0 y.0.3 ws))) told $
      use0 𝓛 (‵ (has_of y.0.0 T.signature.params T.kept stayed y.0.3 ws y.0.4)) (had 𝓛 y.0.0 T.signature.params T.kept y.0.3 ws y.0.4) $
      -- [what is had of the parameters; the `ensures`; the result; the tokens]
      move ! (0 ∷ 2 ∷ []) $ join ! $ move ! (2 ∷ 0 ∷ []) $ join ! $ done !

-- ---- a number: `u64` and `usize` are one row
module _ {M : Type 1} {𝓤 : Ura M} {𝓛 : Logic 𝓤} {K : Type 0} {Γ : List (Item 𝓤)} {G : Goal 𝓤 𝓛.H} where
  pub number : K → (n : ℕ) → n < 2 ^ 64 → Step K 𝓛 (‵ ((UInt w64).own_val n (vint w64 n ∷ [])) ∷ Γ) G Γ G
  number t n fits = owned t (UInt w64) (Is (UInt w64)) (uint_Makes 𝓛 w64) n (vint w64 n ∷ []) (refl, fits)

-- ---- a call
module _ {M : Type 1} {𝓤 : Ura M} {𝓛 : Logic 𝓤} {Γ : List (Item 𝓤)} {E : Env 𝓤 𝓛.H} {C : Calls 𝓤 𝓛.H} {Λ : Loops 𝓤 𝓛.H} {p : Post 𝓤 𝓛.H} {f : Callee} {xs : List Operand} {d : Place} {rest : Body} where
  open 𝓛 use {H}

  pub calls-told : Go {0} → FmC 𝓤 H 𝓛.laws C → (T : Ended) (c : Clauses 𝓤 T) → Triple 𝓤 (C f) (triple_of 𝓛 T.signature (closing 𝓛 T c))
      → (y : (triple_of 𝓛 T.signature (closing 𝓛 T c)).Ghost) (φ : Res T.signature y.0.0 → Type 0)
      → ((r : Res T.signature y.0.0) (ws : Lasts T y.0.0 y.0.3) → ent 𝓤 ((c y.0.0 y.0.3).ensures y.1 r (at_exit T y.0.0 y.0.3 ws)) (fact 𝓤 (φ r)))
      → Opds (Go {0}) 𝓛 (raw ((triple_of 𝓛 T.signature (closing 𝓛 T c)).pre y) ∷ Γ) E xs ((triple_of 𝓛 T.signature (closing 𝓛 T c)).args y)
      → ((u : Val) (r : Res T.signature y.0.0) → φ r → Is (type_at T.signature.result y.0.0) r (u ∷ [])
      → Seq (Go {0}) 𝓛 (‵ ((type_at T.signature.result y.0.0).own_val r (u ∷ [])) ∷ raw (alive 𝓛 T.signature y.0.0 y.0.1) ∷ Γ) (lands C Λ E d u rest p))
      → Seq (Go {0}) 𝓛 (raw ((triple_of 𝓛 T.signature (closing 𝓛 T c)).pre y) ∷ Γ) (runs C Λ E (seq (call f xs d) rest) p)
  calls-told t fm T c met y φ shown os k =
      calls_at ! fm (triple_of 𝓛 T.signature (closing 𝓛 T c)) met y os (λ u.
      use1 𝓛 (later (some (λ (r : Res T.signature y.0.0). (raw (alive 𝓛 T.signature y.0.0 y.0.1) ⊛ ‵ ((type_at T.signature.result y.0.0).own_val r (u ∷ []))) ⊛ raw (ensured 𝓛 T c y.0.0 y.0.3 y.1 r)))) (id⊢ 𝓤 _) $ await ! tt $ pick ! (λ r.
      -- [the tokens and the result; what is ensured; …]
      split ! $ move ! (1 ∷ []) $
      use1 𝓛 (raw (fact 𝓤 (φ r))) (ex_e 𝓤 _ (λ ws. via 𝓤 _ (snd∗ 𝓤 (sem 𝓛 (lasts T y.0.0 y.0.3 ws)) _) (shown r ws))) $
      heard ! (φ r) (λ e. split ! $ move ! (1 ∷ []) $
      peeks ! (type_at T.signature.result y.0.0) (Is (type_at T.signature.result y.0.0)) (shows 𝓛 (type_at T.signature.result y.0.0)) r (u ∷ []) (λ is. k u r e is))))

  pub answers : Go {0} → FmC 𝓤 H 𝓛.laws C → (T : Ended) (c : Clauses 𝓤 T) → Triple 𝓤 (C f) (triple_of 𝓛 T.signature (closing 𝓛 T c))
      → (y : (triple_of 𝓛 T.signature (closing 𝓛 T c)).Ghost) → ent 𝓤 (emp 𝓤) ((triple_of 𝓛 T.signature (closing 𝓛 T c)).pre y)
      → (value : Res T.signature y.0.0) (v : Val) → ((u : Val) → Is (type_at T.signature.result y.0.0) value (u ∷ []) → u ≡ v)
      → ((r : Res T.signature y.0.0) (ws : Lasts T y.0.0 y.0.3) → ent 𝓤 ((c y.0.0 y.0.3).ensures y.1 r (at_exit T y.0.0 y.0.3 ws)) (fact 𝓤 (r ≡ value)))
      → Opds (Go {0}) 𝓛 (raw ((triple_of 𝓛 T.signature (closing 𝓛 T c)).pre y) ∷ Γ) E xs ((triple_of 𝓛 T.signature (closing 𝓛 T c)).args y)
      → (Is (type_at T.signature.result y.0.0) value (v ∷ []) → Seq (Go {0}) 𝓛 Γ (lands C Λ E d v rest p))
      → Seq (Go {0}) 𝓛 Γ (runs C Λ E (seq (call f xs d) rest) p)
  answers t fm T c met y asked value v only_so shown os k =
      use0 𝓛 (raw ((triple_of 𝓛 T.signature (closing 𝓛 T c)).pre y)) asked $ calls-told ! fm T c met y (λ r. r ≡ value) shown os (λ u r e is.
      let so = subst (λ (x : Res T.signature y.0.0). Is (type_at T.signature.result y.0.0) x (u ∷ [])) e is in
      drop ! $ drop ! $ subst (λ (w : Val). Seq (Go {0}) 𝓛 Γ (lands C Λ E d w rest p)) (sym (only_so u so)) (k (subst (λ (w : Val). Is (type_at T.signature.result y.0.0) value (w ∷ [])) (only_so u so) so)))

-- ---- from a walk to the function. What it requires is let go: no walk uses it
module _ {M : Type 1} {𝓤 : Ura M} (𝓛 : Logic 𝓤) (𝓜 : Model 𝓤 𝓛.H) (𝓡 : Running 𝓤 𝓛.H 𝓜) (γ : Naming) (T : Ended) (c : Clauses 𝓤 T) where
  open 𝓛 use {H}

  abbrev S : Signature
  S = T.signature

  -- how the parameters are spelt in machine values, that they can only be spelt so, and a walk of e that ends with hs prove f
  abbrev ByWalk : Stays S.params T.kept → Callee → Fn → Type 2
  ByWalk hs f e =
      (sp : (κs : Lfts S.lifetimes) → Spells (types_at S.params κs)) → ((κs : Lfts S.lifetimes) → Tellss (types_at S.params κs) (Ises (types_at S.params κs)) (sp κs))
      → (FmC 𝓤 H 𝓛.laws (tables 𝓤 H 𝓜 𝓡 γ).C
      → (κs : Lfts S.lifetimes) (qs : Shares S.lifetimes) (bounds : AllOutlive S.lifetimes S.outlives κs) (a : Args S κs) (g : (c κs a).ghost)
      → Are (types_at S.params κs) (Ises (types_at S.params κs)) a (valss (types_at S.params κs) (sp κs) a)
      → ent 𝓤 (on_entry 𝓛 S κs qs a (valss (types_at S.params κs) (sp κs) a))
      (WpFn 𝓤 H (tables 𝓤 H 𝓜 𝓡 γ).C (tables 𝓤 H 𝓜 𝓡 γ).Λ e (flat (types_at S.params κs) (valss (types_at S.params κs) (sp κs) a)) ((walk_of 𝓛 T hs c).post ((κs, qs, bounds, a, valss (types_at S.params κs) (sp κs) a), g))))
      → Meets 𝓛 S ((tables 𝓤 H 𝓜 𝓡 γ).C f) (closing 𝓛 T c)

  pub proves-with : (hs : Stays S.params T.kept) (f : Callee) (e : Fn) → Closed 𝓤 H (tables 𝓤 H 𝓜 𝓡 γ).C (tables 𝓤 H 𝓜 𝓡 γ).Λ f e → AllGo 𝓛 S.lifetimes S.params T.kept hs → ByWalk hs f e
  unfolding tables_of
  proves-with hs f e closed go sp tl walk =
      let run = WpFn 𝓤 H (tables 𝓤 H 𝓜 𝓡 γ).C (tables 𝓤 H 𝓜 𝓡 γ).Λ e in
      let 𝓣 = tables_of 𝓤 H 𝓜 (tables 𝓤 H 𝓜 𝓡 γ) in
      entered 𝓤 H (triple_of 𝓛 S (closing 𝓛 T c)) (tables 𝓤 H 𝓜 𝓡 γ).C (tables 𝓤 H 𝓜 𝓡 γ).Λ f e closed
      (walk_Meets 𝓛 T hs go c run (WpFn-mono 𝓤 H 𝓛.laws 𝓣 e)
      (walked 𝓛 T hs c run sp tl (λ κs qs bounds a g are. via 𝓤 _ (fst∗ 𝓤 _ ((c κs a).requires g)) (walk (fm_of 𝓤 H 𝓛.laws 𝓣) κs qs bounds a g are))))

  pub proves : (f : Callee) (e : Fn) → Closed 𝓤 H (tables 𝓤 H 𝓜 𝓡 γ).C (tables 𝓤 H 𝓜 𝓡 γ).Λ f e → Silent S.params T.kept → ByWalk (dropped S.params T.kept) f e
  proves f e closed silent = proves-with (dropped S.params T.kept) f e closed (all_go 𝓛 S.params T.kept silent)
