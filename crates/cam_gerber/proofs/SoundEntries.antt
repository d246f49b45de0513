-- The entries of blocks that are closed and of definitions may be added.
use Rattle.std.proofs.Common.{◌≡◌, ℕ, List, [], ◌∷◌, None, nat_eq, refl, sym, ap, subst, ◌∙◌}
use Rattle.std.specs.Prelude.{map}
use Rattle.std.specs.Map.{lookup}
use Rattle.cam_units.specs.declared.length.Unit.{Unit as FileUnit}
use Rattle.cam_macros.specs.declared.aperture_macro.Macro.{Macro}
use Rattle.cam_apertures.specs.declared.aperture.Aperture.{Aperture}
use Rattle.cam_apertures.specs.Definition.{IsDefined, template_form, faults_of}
use Rattle.cam_objects.specs.declared.entry.Entry.{Entry}
use Rattle.cam_objects.specs.declared.entry.Entry.TheVariants as entry
use Rattle.cam_objects.specs.Soundness.{MayAddEntry}
use Rattle.cam_gerber.specs.declared.frames.OpenBlock.{OpenBlock as Frame}
use Rattle.cam_gerber.specs.declared.running.Running.{Running}
use Rattle.cam_gerber.specs.Homes.{InBlock, open_blocks}
use Rattle.cam_gerber.specs.Making.{home_objects}
use Rattle.cam_gerber.specs.Machinery.Tracking.{HasPast, block_of}
use Rattle.cam_gerber.proofs.Least.{passed_by}
use Rattle.cam_gerber.proofs.SoundDefinitions.{AreDefined, sound_definition}
use Rattle.cam_gerber.proofs.SoundJoining.{block_may_join}
use Rattle.cam_gerber.proofs.Defining.{defined_entry}

-- the innermost block
pub closing_may_add : (old : Running) (block : Frame) (rest : List Frame) → HasPast old → old.frames.blocks.items ≡ block ∷ rest
    → MayAddEntry old.built.layer.apertures block.number (entry.Block block.objects)
closing_may_add old block rest h is = go (open_blocks h.0) refl
  where
    go : (numbers : List ℕ) → open_blocks h.0 ≡ numbers → MayAddEntry old.built.layer.apertures block.number (entry.Block block.objects)
    go [] e = absurd (let none : block ∷ rest ≡ [] = sym is ∙ h.2.frames.blocks ∙ ap (map (block_of h.0)) e in cc)
    go (n ∷ outer) e =
        let joined : block ∷ rest ≡ block_of h.0 n ∷ map (block_of h.0) outer = sym is ∙ h.2.frames.blocks ∙ ap (map (block_of h.0)) e in
        let top : block ≡ block_of h.0 n = cc in
        subst (λ (b : Frame). MayAddEntry old.built.layer.apertures b.number (entry.Block b.objects)) (sym top)
        (subst (λ es. MayAddEntry es n (entry.Block (home_objects (InBlock n) h.0))) (sym h.2.built.entries)
        (block_may_join h.0 n outer h.1 h.3 e))

-- what a definition defines
pub definition_may_add : (es : List (ℕ × Entry)) (text : List ℕ) (macros : List Macro) (unit : FileUnit) (n : ℕ) (a : Aperture)
    → IsDefined text macros unit n a → lookup (nat_eq n) es ≡ None
    → MayAddEntry es n (entry.Aperture a)
definition_may_add es text macros unit n a d free =
    let sound = subst AreDefined (defined_entry text macros unit n a d)
    (sound_definition (template_form text) macros unit
    (passed_by (faults_of (template_form text) macros unit) d.faultless)) in
    record { least = sound.0.0; greatest = sound.0.1; absent = free; sound = sound.1 es }
