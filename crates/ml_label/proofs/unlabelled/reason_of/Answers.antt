use Rattle.std.proofs.Common.{◌≡◌, ◌≢◌, None}
use Rattle.ml_ratio.specs.declared.feature.Feature.{Feature}
use Rattle.ml_style.specs.Matching.{first_match}
use Rattle.ml_style.specs.declared.style.Style.{Style}
use Rattle.ml_label.specs.Labelling.{IsReason, IsUnlabelled}
use Rattle.ml_label.specs.Name.{label_name}
use Rattle.ml_label.specs.declared.reason.Reason.TheVariants.{NoGeometry, NoClass, NoName, TooWide}

-- with a shape no class applies
no_class : (style : Style) (f : Feature) → f.geometry ≢ None → first_match style f ≡ None → IsUnlabelled style f → IsReason style f NoClass
no_class style f shaped none (NoGeometry, h) = absurd (shaped h)
no_class style f shaped none (NoClass, h) = h
no_class style f shaped none (NoName, h) = let some = h.class_is.1 in absurd cc
no_class style f shaped none (TooWide, h) = let some = h.named.class_is.1 in absurd cc

-- with a shape and a class there is no name
no_name : (style : Style) (f : Feature) → f.geometry ≢ None → first_match style f ≢ None → label_name style f ≡ None → IsUnlabelled style f → IsReason style f NoName
no_name style f shaped applies none (NoGeometry, h) = absurd (shaped h)
no_name style f shaped applies none (NoClass, h) = absurd (applies h.none_applies)
no_name style f shaped applies none (NoName, h) = h
no_name style f shaped applies none (TooWide, h) = let some = h.named.text_is in absurd cc

-- with a shape, a class and a name the label is too wide
too_wide : (style : Style) (f : Feature) → f.geometry ≢ None → first_match style f ≢ None → label_name style f ≢ None → IsUnlabelled style f → IsReason style f TooWide
too_wide style f shaped applies named (NoGeometry, h) = absurd (shaped h)
too_wide style f shaped applies named (NoClass, h) = absurd (applies h.none_applies)
too_wide style f shaped applies named (NoName, h) = absurd (named h.unnamed)
too_wide style f shaped applies named (TooWide, h) = h
