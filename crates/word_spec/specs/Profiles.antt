-- The profiles of ARM.

-- which instructions beside those of version 4 have rows
pub data Profile : Type 0 where
  V4 : Profile
  V4T : Profile
  V5 : Profile
