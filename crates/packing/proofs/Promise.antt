-- Packing and unpacking keep what is promised (specs/Promise.antt): `stores_cards`, under all limits that refuse repeated names, and `base_stores_cards`.
-- Assumes nothing.
use mathlib.Core.Path.{◌≡◌, refl, sym, ◌∙◌}
use mathlib.Core.Bool.{true}
use Rattle.text.specs.Limits.{Limits, base}
use Rattle.packing.specs.Services.{vaulted}
use Rattle.packing.specs.Promise.{StoresCards}
use Rattle.packing.proofs.Packs.{rules_so, ends_so, packs_so, packing_so, unread_iff, wide_iff, short_iff, packing_room_so, bytes_so, value_so, can_write_so}
use Rattle.packing.proofs.Unpacks.{unpack_ends_so, shortest_so, text_room_so, one_text_so, compact_so, unpacks_so, unpacking_so, not_packed_so, text_short_so, gives_back_so, packs_back_so}

pub stores_cards : (L : Limits) → L.unique ≡ true → StoresCards L (vaulted L)
stores_cards L unique =
    record {
      pack_ends = ends_so L;
      unpack_ends = unpack_ends_so L;
      one_packing = λ words room t a b x y o q p r. (p.answered ∙ sym r.answered, p.left ∙ sym r.left, p.bytes ∙ sym r.bytes);
      one_unpacking = λ room p a b o q x y. (x.answered ∙ sym y.answered, x.bytes ∙ sym y.bytes);
      packs = packs_so L;
      packing = packing_so L;
      unread = unread_iff L;
      too_wide = wide_iff L;
      too_short = short_iff L;
      packing_room = packing_room_so L;
      by_rules = rules_so L;
      are_bytes = bytes_so L;
      one_value = value_so L;
      can_write = can_write_so L;
      compact = compact_so L unique;
      one_text = one_text_so L unique;
      shortest = shortest_so L;
      text_room = text_room_so L;
      unpacks = λ p small room. unpacks_so L unique p room small;
      unpacking = unpacking_so L unique;
      not_packed_says = λ p small room. not_packed_so L unique p room small;
      text_short = λ p small room. text_short_so L unique p room small;
      gives_back = gives_back_so L unique;
      packs_back = packs_back_so L unique;
    }

-- under the limits of 01
pub base_stores_cards : StoresCards base (vaulted base)
base_stores_cards = stores_cards base refl
