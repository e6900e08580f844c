-- What is asked makes one edit at most, and is refused for one cause at most, exactly where it stands.
use Rattle.std.proofs.Common.{◌≡◌, ◌≢◌, ℕ, ◌<◌, List, length, Option, Some, None, Ok, Err, inl, inr, refl, sym, ap, subst, ◌∙◌, arith}
use Rattle.ml_ratio.specs.Refusal.{RefusesExactly}
use Rattle.ml_ratio.specs.declared.feature.Feature.{Feature}
use Rattle.ml_geojson.specs.Map.{IsFeature, IsFeatureFault}
use Rattle.ml_geojson.specs.declared.fault.GeoFault.{GeoFault}
use Rattle.ml_geojson.specs.declared.fault.GeoFault.TheVariants as geo
use Rattle.ml_style.specs.Answer.{IsRefusal}
use Rattle.ml_style.specs.StyleTable.{IsStyle}
use Rattle.ml_style.specs.declared.fault.StyleFault.{StyleFault}
use Rattle.ml_style.specs.declared.fault.StyleFault.TheVariants as styles
use Rattle.ml_style.specs.declared.style.Style.{Style}
use Rattle.ml_editor.specs.State.{State, IsAllowed}
use Rattle.ml_editor.specs.Editing.{Editing, Prepared, IsReady, IsSameMap, HasRoomFor}
use Rattle.ml_editor.specs.Faults.{Wish, adds, replaces, removes, restyles, AsksFor, IsNoFeature, IsUnread, IsMoved, IsPresent}
use Rattle.ml_editor.specs.Faults.{IsLast, IsBarred, IsDenied, IsRefused, IsFault, OrMemory, IsGranted, ExcludeOneAnother}
use Rattle.ml_editor.specs.Outcome.{IsPrepared}
use Rattle.ml_editor.specs.declared.edit.Edit.{Edit}
use Rattle.ml_editor.specs.declared.edit.Edit.TheVariants.{Add, Replace, Remove, Restyle}
use Rattle.ml_editor.specs.declared.fault.EditFault.{EditFault}
use Rattle.ml_editor.specs.declared.fault.EditFault.TheVariants.{Geo, Style as BadStyle, Memory}

module _ (one_feature : (bytes : List ℕ) (one other : Feature) → IsFeature bytes one → IsFeature bytes other → one ≡ other)
    (one_style : (bytes : List ℕ) (one other : Style) → IsStyle bytes one → IsStyle bytes other → one ≡ other) where
  -- what is asked asks for one edit at most
  pub one_made : (wish : Wish) (one other : Edit) → AsksFor wish one → AsksFor wish other → one ≡ other
  one_made (adds body) one other p q = p.1 ∙ ap Add (one_feature body p.0 q.0 p.2 q.2) ∙ sym q.1
  one_made (replaces body) one other p q = p.1 ∙ ap Replace (one_feature body p.0 q.0 p.2 q.2) ∙ sym q.1
  one_made (removes id) one other p q = p ∙ sym q
  one_made (restyles body) one other p q = p.1 ∙ ap Restyle (one_style body p.0 q.0 p.2 q.2) ∙ sym q.1

-- ---- the revision

moved_or_present : (s : State) (rev : Option ℕ) (fault : EditFault) → IsMoved s rev fault → IsPresent s rev → ⊥
moved_or_present s None fault h p = h
moved_or_present s (Some rev) fault h p = h.0 p

one_moved : (s : State) (rev : Option ℕ) (a b : EditFault) → IsMoved s rev a → IsMoved s rev b → a ≡ b
one_moved s None a b h k = absurd h
one_moved s (Some rev) a b h k = h.1 ∙ sym k.1

-- ---- the features and the last revision

not_below : (n m : ℕ) → n ≡ m → n < m → ⊥
not_below n m same low = omega (arith, same, low)

one_barred : (fs : List Feature) (id : List ℕ) (a b : EditFault) → IsBarred fs id a → IsBarred fs id b → a ≡ b
one_barred fs id a b (inl p) (inl q) = p.0 ∙ sym q.0
one_barred fs id a b (inl p) (inr q) = absurd (q.1 p.1)
one_barred fs id a b (inr p) (inl q) = absurd (p.1 q.1)
one_barred fs id a b (inr p) (inr q) = p.0 ∙ sym q.0

one_denied : (fs : List Feature) (edit : Edit) (a b : EditFault) → IsDenied fs edit a → IsDenied fs edit b → a ≡ b
one_denied fs (Add f) a b p q = one_barred fs f.id a b p q
one_denied fs (Replace f) a b p q = p.0 ∙ sym q.0
one_denied fs (Remove id) a b p q = p.0 ∙ sym q.0
one_denied fs (Restyle style) a b p q = absurd p

barred_or_allowed : (fs : List Feature) (f : Feature) (fault : EditFault) → IsBarred fs f.id fault → IsAllowed fs (Add f) → ⊥
barred_or_allowed fs f fault (inl p) may = may.0 p.1
barred_or_allowed fs f fault (inr p) may = not_below (length fs) _ p.2 may.1

denied_or_allowed : (fs : List Feature) (edit : Edit) (fault : EditFault) → IsDenied fs edit fault → IsAllowed fs edit → ⊥
denied_or_allowed fs (Add f) fault p may = barred_or_allowed fs f fault p may
denied_or_allowed fs (Replace f) fault p may = p.1 may
denied_or_allowed fs (Remove id) fault p may = p.1 may
denied_or_allowed fs (Restyle style) fault p may = p

one_refused : (s : State) (edit : Edit) (a b : EditFault) → IsRefused s edit a → IsRefused s edit b → a ≡ b
one_refused s edit a b (inl p) (inl q) = one_denied s.features edit a b p q
one_refused s edit a b (inl p) (inr q) = absurd (denied_or_allowed s.features edit a p q.1)
one_refused s edit a b (inr p) (inl q) = absurd (denied_or_allowed s.features edit b q p.1)
one_refused s edit a b (inr p) (inr q) = p.0 ∙ sym q.0

refused_or_made : (s : State) (edit : Edit) (fault : EditFault) → IsRefused s edit fault → IsAllowed s.features edit → ¬ (IsLast s) → ⊥
refused_or_made s edit fault (inl p) may more = denied_or_allowed s.features edit fault p may
refused_or_made s edit fault (inr p) may more = more p.2

-- ---- what is asked

module _ (one_edit : (wish : Wish) (one other : Edit) → AsksFor wish one → AsksFor wish other → one ≡ other)
    (one_geo : (bytes : List ℕ) (one other : GeoFault) → one ≢ geo.Memory → other ≢ geo.Memory → IsFeatureFault bytes one → IsFeatureFault bytes other → one ≡ other)
    (feature_or_fault : (bytes : List ℕ) (one : Feature) (fault : GeoFault) → IsFeature bytes one → IsFeatureFault bytes fault → fault ≡ geo.Memory)
    (one_bad : (bytes : List ℕ) (one other : StyleFault) → one ≢ styles.Memory → other ≢ styles.Memory → IsRefusal bytes one → IsRefusal bytes other → one ≡ other)
    (style_or_fault : (bytes : List ℕ) (style : Style) (fault : StyleFault) → IsStyle bytes style → IsRefusal bytes fault → fault ≡ styles.Memory) where
  one_no_feature : (body : List ℕ) (a b : EditFault) → IsNoFeature body a → IsNoFeature body b → a ≡ b
  one_no_feature body a b p q = p.1 ∙ ap Geo (one_geo body p.0 q.0 p.2 q.2 p.3 q.3) ∙ sym q.1

  one_unread : (wish : Wish) (a b : EditFault) → IsUnread wish a → IsUnread wish b → a ≡ b
  one_unread (adds body) a b p q = one_no_feature body a b p q
  one_unread (replaces body) a b p q = one_no_feature body a b p q
  one_unread (removes id) a b p q = absurd p
  one_unread (restyles body) a b p q = p.1 ∙ ap BadStyle (one_bad body p.0 q.0 p.2 q.2 p.3 q.3) ∙ sym q.1

  unread_or_made : (wish : Wish) (fault : EditFault) (edit : Edit) → IsUnread wish fault → AsksFor wish edit → ⊥
  unread_or_made (adds body) fault edit p made = p.2 (feature_or_fault body made.0 p.0 made.2 p.3)
  unread_or_made (replaces body) fault edit p made = p.2 (feature_or_fault body made.0 p.0 made.2 p.3)
  unread_or_made (removes id) fault edit p made = p
  unread_or_made (restyles body) fault edit p made = p.2 (style_or_fault body made.0 p.0 made.2 p.3)

  module _ (s : State) (rev : Option ℕ) (wish : Wish) where
    one_cause : (a b : EditFault) → IsFault s rev wish a → IsFault s rev wish b → a ≡ b
    one_cause a b (inl p) (inl q) = one_moved s rev a b p q
    one_cause a b (inl p) (inr q) = absurd (moved_or_present s rev a p q.0)
    one_cause a b (inr p) (inl q) = absurd (moved_or_present s rev b q p.0)
    one_cause a b (inr (_, inl p)) (inr (_, inl q)) = one_unread wish a b p q
    one_cause a b (inr (_, inl p)) (inr (_, inr q)) = absurd (unread_or_made wish a q.0 p q.1)
    one_cause a b (inr (_, inr p)) (inr (_, inl q)) = absurd (unread_or_made wish b p.0 q p.1)
    one_cause a b (inr (_, inr p)) (inr (_, inr q)) = one_refused s q.0 a b (subst (λ (e : Edit). IsRefused s e a) (one_edit wish p.0 q.0 p.1 q.1) p.2) q.2

    no_cause : (fault : EditFault) (edit : Edit) → IsGranted s rev wish edit → IsFault s rev wish fault → ⊥
    no_cause fault edit good (inl p) = moved_or_present s rev fault p good.present
    no_cause fault edit good (inr (_, inl p)) = unread_or_made wish fault edit p good.asked
    no_cause fault edit good (inr (_, inr p)) = refused_or_made s edit fault (subst (λ (e : Edit). IsRefused s e fault) (one_edit wish p.0 edit p.1 good.asked) p.2) good.allowed good.not_last

    -- a request is refused by one fault at most, and by none where it is granted
    pub one_refusal : ExcludeOneAnother (IsFault s rev wish) (IsGranted s rev wish)
    one_refusal = record { one = one_cause; none = no_cause }

-- ---- what comes of it

-- a map to which nothing was done is the same map
pub same_map : (e : Editing) → IsSameMap e e
same_map e = record { state = refl; rows = refl; features_room = omega arith; labels_room = record { labels = omega arith; cells = omega arith; blocks = omega arith } }

module _ (old new : Editing) (rev : Option ℕ) (wish : Wish) (law : ExcludeOneAnother (IsFault old.state rev wish) (IsGranted old.state rev wish)) (same : IsSameMap old new) where
  exactly : (e fault : EditFault) → OrMemory (IsFault old.state rev wish) e → fault ≢ Memory → RefusesExactly {A = Prepared} (Err e) fault Memory (IsFault old.state rev wish fault)
  exactly e fault (inl memory) some = ((λ is. let other : e ≡ fault = cc in absurd (some (sym other ∙ memory))), (λ h. inr (ap Err memory)))
  exactly e fault (inr due) some = ((λ is. let other : e ≡ fault = cc in subst (IsFault old.state rev wish) other due), (λ h. inl (ap Err (law.one e fault due h))))

  only_memory : (e : EditFault) (edit : Edit) → OrMemory (IsFault old.state rev wish) e → IsGranted old.state rev wish edit → e ≡ Memory
  only_memory e edit (inl memory) good = memory
  only_memory e edit (inr due) good = absurd (law.none e edit good due)

  -- a refusal by the fault that stands, or for want of memory, is a right answer to the request
  pub refused_so : (e : EditFault) → OrMemory (IsFault old.state rev wish) e → IsPrepared old new rev wish (Err e)
  refused_so e due = record {
    ok = tt;
    ready = tt;
    room = tt;
    accepted = λ edit good. only_memory e edit due good;
    refused = λ fault some. exactly e fault due some;
    same = same;
  }

  -- a ready edit that is granted, with room for all that it brings, is a right answer to the request
  pub ready_so : (ready : Prepared) → IsGranted old.state rev wish ready.edit → IsReady ready new.state new.engine.rows → HasRoomFor ready new → IsPrepared old new rev wish (Ok ready)
  ready_so ready good is room = record {
    ok = good;
    ready = is;
    room = room;
    accepted = λ edit other. tt;
    refused = λ fault some. ((λ e. absurd cc), (λ h. absurd (law.none fault ready.edit good h)));
    same = same;
  }
